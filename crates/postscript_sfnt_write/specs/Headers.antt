-- The headers of the subtables of `cmap` (ISO/IEC 14496-22, 5.2.1, "Format 4" and "Format 12").
use Rattle.std.specs.Prelude.{◌≡◌, ◌⊎◌, ℕ, ◌+◌, ◌*◌, ◌^◌, ◌<◌, ◌≤◌, List, length}
use Rattle.postscript_base.specs.Index.{number_at}
use Rattle.postscript_sfnt.specs.Choice.{place_at, records_of}

-- the logarithm to base 2, rounded down
pub record IsLogarithm (number logarithm : ℕ) : Type 0 where
  pub most : 2 ^ logarithm ≤ number
  pub least : number < 2 * 2 ^ logarithm

-- A subtable of format 4 at an offset: a header of 14 bytes, four arrays of `count` numbers with two bytes of padding, and no glyph ids.
-- The search fields are those of the number of segments. The language is 0.
pub record HasHeader4 (cmap : List ℕ) (at : ℕ) : Type 0 where
  pub count : ℕ
  pub format : number_at cmap at 2 ≡ 4
  pub size : number_at cmap (at + 2) 2 ≡ 16 + count * 8
  pub language : number_at cmap (at + 4) 2 ≡ 0
  pub segments : number_at cmap (at + 6) 2 ≡ count * 2
  pub range : number_at cmap (at + 8) 2 ≡ 2 ^ number_at cmap (at + 10) 2 * 2
  pub selector : IsLogarithm count (number_at cmap (at + 10) 2)
  pub shift : number_at cmap (at + 12) 2 + number_at cmap (at + 8) 2 ≡ count * 2
  pub within : at + 16 + count * 8 ≤ length cmap

-- A subtable of format 12 at an offset: a header of 16 bytes and `count` groups of 12 bytes. The language is 0. The table ends with it.
pub record HasHeader12 (cmap : List ℕ) (at : ℕ) : Type 0 where
  pub count : ℕ
  pub format : number_at cmap at 2 ≡ 12
  pub reserved : number_at cmap (at + 2) 2 ≡ 0
  pub size : number_at cmap (at + 4) 4 ≡ 16 + count * 12
  pub language : number_at cmap (at + 8) 4 ≡ 0
  pub groups : number_at cmap (at + 12) 4 ≡ count
  pub within : at + 16 + count * 12 ≡ length cmap

-- the subtable of each encoding record has one of these headers
abbrev pub HaveHeaders : (cmap : List ℕ) → Type 0
HaveHeaders cmap = (i : ℕ) → i < records_of cmap → HasHeader4 cmap (place_at cmap i) ⊎ HasHeader12 cmap (place_at cmap i)

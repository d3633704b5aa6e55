-- The bytes of a `cmap` table to which a subtable is added. Only private contracts and proofs use these names.
use Rattle.std.specs.Prelude.{ℕ, zero, suc, ◌+◌, ◌-◌, ◌*◌, ◌^◌, ◌<◌, List, [], ◌++◌, length, take, drop}
use Rattle.postscript_sfnt.specs.Choice.{encoding_at, place_at, platform_at}
use Rattle.postscript_sfnt_write.specs.Grouping.{encoding_text}
use Rattle.postscript_sfnt_write.specs.Numbers.{uint16}

-- record `i` with an offset that is 8 greater
abbrev pub moved_record : (cmap : List ℕ) → (i : ℕ) → List ℕ
moved_record cmap i = encoding_text (platform_at cmap i) (encoding_at cmap i) (place_at cmap i + 8)

-- `count` such records
unfoldable pub moved_text : (cmap : List ℕ) → (from count : ℕ) → List ℕ
moved_text cmap from zero = []
moved_text cmap from (suc n) = moved_text cmap from n ++ moved_record cmap (from + n)

-- the numbers of a record fit
pub record RecordFits (cmap : List ℕ) (i : ℕ) : Type 0 where
  pub platform : platform_at cmap i < 2 ^ 16
  pub encoding : encoding_at cmap i < 2 ^ 16
  pub offset : place_at cmap i + 8 < 2 ^ 32

abbrev pub RecordsFit : (cmap : List ℕ) → (from count : ℕ) → Type 0
RecordsFit cmap from count = (k : ℕ) → k < count → RecordFits cmap (from + k)

-- a table of `count` records, and a record of platform 0 and encoding 5 before record `at`
unfoldable pub with_text : (cmap subtable : List ℕ) → (at count : ℕ) → List ℕ
with_text cmap subtable at count = take 2 cmap ++ (uint16 (count + 1)
    ++ (moved_text cmap 0 at ++ (encoding_text 0 5 (length cmap + 8)
    ++ (moved_text cmap at (count - at) ++ (drop (4 + count * 8) cmap ++ subtable)))))

-- A `cmap` table to which variation sequences are added (ISO/IEC 14496-22, 5.2.1, "Format 14").
use Rattle.std.specs.Prelude.{◌≡◌, ◌⊎◌, ℕ, ◌+◌, ◌*◌, ◌/◌, ◌^◌, ◌<◌, ◌≤◌, List, ◌++◌, length, drop}
use Rattle.postscript_base.specs.Index.{number_at}
use Rattle.postscript_sfnt.specs.CharacterMap.{Holds, first4, last4, offset4, place4}
use Rattle.postscript_sfnt.specs.Choice.{encoding_at, place_at, platform_at, records_of}
use Rattle.postscript_sfnt.specs.Maps.{IsWhole}
use Rattle.postscript_sfnt_write.specs.declared.error.Error.{Error}
use Rattle.postscript_sfnt_write.specs.declared.error.Error.TheVariants.{Cut, Memory, TooLarge}

-- The encoding records are inside the table. Each subtable begins after them, and two bytes before the end or earlier.
pub record HasSubtables (cmap : List ℕ) : Type 0 where
  pub records : 4 + records_of cmap * 8 ≤ length cmap
  pub behind : (i : ℕ) → i < records_of cmap → 4 + records_of cmap * 8 ≤ place_at cmap i
  pub within : (i : ℕ) → i < records_of cmap → place_at cmap i + 2 ≤ length cmap

-- a record is for platform 0 and an encoding below 5
abbrev pub IsLower : (cmap : List ℕ) → (i : ℕ) → Type 0
IsLower cmap i = (platform_at cmap i ≡ 0) × (encoding_at cmap i < 5)

-- Record `k` of the new table is record `i` of the old one. Its subtable is 8 bytes later. The added subtable is after its bytes.
pub record IsSameRecord (old subtable new : List ℕ) (i k : ℕ) : Type 0 where
  pub platform : platform_at new k ≡ platform_at old i
  pub encoding : encoding_at new k ≡ encoding_at old i
  pub offset : place_at new k ≡ place_at old i + 8
  pub bytes : drop (place_at new k) new ≡ drop (place_at old i) old ++ subtable

-- A subtable is added with a record of platform 0 and encoding 5. The record is the first one that keeps ascending records in order, and
-- the subtable ends the table. The version and all other records are the old ones.
pub record IsWith (old subtable new : List ℕ) : Type 0 where
  pub was : HasSubtables old
  pub version : number_at new 0 2 ≡ number_at old 0 2
  pub counted : records_of new ≡ records_of old + 1
  pub size : length new ≡ length old + 8 + length subtable
  pub at : ℕ
  pub listed : at ≤ records_of old
  pub lower : (i : ℕ) → i < at → IsLower old i
  pub higher : at < records_of old → IsLower old at → ⊥
  pub platform : platform_at new at ≡ 0
  pub encoding : encoding_at new at ≡ 5
  pub offset : place_at new at ≡ length old + 8
  pub bytes : drop (place_at new at) new ≡ subtable
  pub before : (i : ℕ) → i < at → IsSameRecord old subtable new i i
  pub after : (i : ℕ) → at ≤ i → i < records_of old → IsSameRecord old subtable new i (i + 1)

-- the number of segments of a subtable of format 4
abbrev pub segments_in : (table : List ℕ) → ℕ
segments_in table = number_at table 6 2 / 2

-- Each glyph that a segment lists is inside the table.
abbrev pub ListsInside : (table : List ℕ) → Type 0
ListsInside table = (i char : ℕ) → Holds (first4 table (segments_in table)) (last4 table) (segments_in table) i char →
    (offset4 table (segments_in table) i ≡ 0) ⊎ (place4 table (segments_in table) i char + 2 ≤ length table)

-- A subtable of format 4, 6 or 12 reads no bytes past the end: it is whole, and in format 4 so are the glyphs that its segments list.
pub record IsClosed (table : List ℕ) : Type 0 where
  pub whole : IsWhole table
  pub lists : number_at table 0 2 ≡ 4 → ListsInside table

-- so does each subtable of a table
abbrev pub AreClosed : (cmap : List ℕ) → Type 0
AreClosed cmap = (i : ℕ) → i < records_of cmap → IsClosed (drop (place_at cmap i) cmap)

-- when no subtable is added
abbrev pub RefusesSubtable : (cmap subtable : List ℕ) → Error → Type 0
RefusesSubtable cmap subtable Memory = Unit {0}
RefusesSubtable cmap subtable Cut = HasSubtables cmap → ⊥
RefusesSubtable cmap subtable TooLarge = (65535 ≤ records_of cmap) ⊎ (2 ^ 32 ≤ length cmap + 8 + length subtable)
RefusesSubtable cmap subtable _ = ⊥

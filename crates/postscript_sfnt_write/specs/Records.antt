-- The encoding records of a `cmap` table, and the order of its segments and groups (ISO/IEC 14496-22, 5.2.1).
use Rattle.std.specs.Prelude.{◌≡◌, ◌⊎◌, ℕ, ◌+◌, ◌<◌, List}
use Rattle.postscript_base.specs.Index.{number_at}
use Rattle.postscript_sfnt.specs.CharacterMap.{Rise, first12, first4, last12, last4}
use Rattle.postscript_sfnt.specs.Choice.{encoding_at, place_at, platform_at, records_of}
use Rattle.postscript_sfnt.specs.Maps.{IsMapAt}
use Rattle.postscript_sfnt.specs.declared.character_map.CharacterMap.{CharacterMap}
use Rattle.postscript_sfnt.specs.declared.character_map.CharacterMap.TheVariants.{Segments, Groups, Trimmed}

-- an encoding record has this platform and encoding, and its subtable has this format
abbrev pub IsRecord : (cmap : List ℕ) → (i platform encoding format : ℕ) → Type 0
IsRecord cmap i platform encoding format =
    (platform_at cmap i ≡ platform) × (encoding_at cmap i ≡ encoding) × (number_at cmap (place_at cmap i) 2 ≡ format)

-- Two encoding records, both with format 4 for the first plane of Unicode: one of the platform Unicode (0), one of Windows (3).
pub record HasTwoRecords (cmap : List ℕ) : Type 0 where
  pub counted : records_of cmap ≡ 2
  pub unicode : IsRecord cmap 0 0 3 4
  pub windows : IsRecord cmap 1 3 1 4

-- Four encoding records: each platform also has one with format 12, for all of Unicode.
pub record HasFourRecords (cmap : List ℕ) : Type 0 where
  pub counted : records_of cmap ≡ 4
  pub unicode : IsRecord cmap 0 0 3 4
  pub unicode_full : IsRecord cmap 1 0 4 12
  pub windows : IsRecord cmap 2 3 1 4
  pub windows_full : IsRecord cmap 3 3 10 12

-- The version of the table is 0. Its encoding records are these, in ascending order of their platforms and encodings.
pub record HasRecords (cmap : List ℕ) : Type 0 where
  pub version : number_at cmap 0 2 ≡ 0
  pub are : HasTwoRecords cmap ⊎ HasFourRecords cmap

-- the last segment has only U+FFFF
abbrev pub IsEnded : (first last : ℕ → ℕ) → (count : ℕ) → Type 0
IsEnded first last count = (i : ℕ) → i + 1 ≡ count → (first i ≡ 0xffff) × (last i ≡ 0xffff)

-- The segments of format 4 and the groups of format 12 are in ascending order and do not overlap. Format 6 has neither. The last segment of
-- format 4 has only U+FFFF.
abbrev pub Ascends : CharacterMap → Type 0
Ascends (Segments it) = Rise (first4 it.table.now it.count) (last4 it.table.now) it.count
    × IsEnded (first4 it.table.now it.count) (last4 it.table.now) it.count
Ascends (Groups it) = Rise (first12 it.table.now) (last12 it.table.now) it.count
Ascends (Trimmed it) = Unit {0}

-- those of the subtable of each encoding record
abbrev pub AllAscend : (cmap : List ℕ) → Type 0
AllAscend cmap = (i : ℕ) (map : CharacterMap) → i < records_of cmap → IsMapAt cmap (place_at cmap i) map → Ascends map

-- The variation sequences of a subset (ISO/IEC 14496-22, 5.2.1, "Format 14").
use Rattle.std.specs.Prelude.{◌≡◌, ◌↔◌, ◌⊎◌, ℕ, ◌<◌, ◌≤◌, Bool, true, false, List, [], Some, length, drop, map}
use Rattle.std.specs.List.{Contains}
use Rattle.postscript_base.specs.Index.{number_at}
use Rattle.postscript_sequences.specs.Keeps.{Keeps}
use Rattle.postscript_sequences.specs.Numbers.{new_number}
use Rattle.postscript_sequences.specs.Sequences.{IsDefault, IsMapped, IsSubtable, offset_at}
use Rattle.postscript_sequences.specs.Units.{units_of}
use Rattle.postscript_sfnt_write.specs.Mappings.{AreTold, AreToldIn4, HasFormat4, IsReadable}
use Rattle.postscript_sfnt_write.specs.Records.{AllAscend}
use Rattle.postscript_sfnt_write.specs.Sequences.{IsWith}
use Rattle.postscript_sfnt_write.specs.declared.mapping.Mapping.{Mapping}

-- the bytes of the first subtable of variation sequences of a `cmap` table, up to the end of the table
pub record IsSequencesOf (cmap table : List ℕ) : Type 0 where
  pub i : ℕ
  pub here : IsSubtable cmap i
  pub first : (k : ℕ) → k < i → IsSubtable cmap k → ⊥
  pub bytes : table ≡ drop (offset_at cmap i) cmap

-- A `cmap` table has the sequence of a character and a variation selector, without a glyph of its own.
abbrev pub HasDefault : (cmap : List ℕ) → (char selector : ℕ) → Type 0
HasDefault cmap char selector = (table : List ℕ) × IsSequencesOf cmap table × IsDefault table char selector

-- A `cmap` table has this glyph for the sequence of a character and a variation selector.
abbrev pub HasMapped : (cmap : List ℕ) → (char selector glyph : ℕ) → Type 0
HasMapped cmap char selector glyph = (table : List ℕ) × IsSequencesOf cmap table × IsMapped table char selector glyph

-- The sequences of characters are dropped if the units of the records for them exceed this limit.
abbrev pub most_units : ℕ
most_units = 20000000

abbrev pub IsTooLong : (cmap chars : List ℕ) → Type 0
IsTooLong cmap chars = (table : List ℕ) × IsSequencesOf cmap table × (most_units < units_of table (length chars))

-- The glyph of a sequence of one of these characters, with any selector. The sequences are not dropped.
abbrev pub IsSequenceGlyph : (cmap chars : List ℕ) → (glyph : ℕ) → Type 0
IsSequenceGlyph cmap chars glyph = (IsTooLong cmap chars → ⊥)
    × ((char : ℕ) × (selector : ℕ) × Contains chars char × HasMapped cmap char selector glyph)

-- the first index of a glyph in a list
abbrev pub IsFirstIndex : (glyphs : List ℕ) → (glyph number : ℕ) → Type 0
IsFirstIndex glyphs glyph number = new_number glyphs glyph ≡ Some number

-- the number of a kept glyph in the subset: its old one if glyphs keep their numbers, otherwise its index among the kept glyphs
abbrev pub IsNewNumber : (retain : Bool) → (kept : List ℕ) → (glyph number : ℕ) → Type 0
IsNewNumber true kept glyph number = Contains kept glyph × (number ≡ glyph)
IsNewNumber false kept glyph number = IsFirstIndex kept glyph number

-- the sequence of one of these characters has a glyph, and the glyph has this new number
abbrev pub IsKeptSequence : (old chars : List ℕ) → (IsNew : ℕ → ℕ → Type 0) → (char selector number : ℕ) → Type 0
IsKeptSequence old chars IsNew char selector number =
    Contains chars char × ((glyph : ℕ) × HasMapped old char selector glyph × IsNew glyph number)

-- The new table says of each sequence of these characters what the old one says, under new numbers. It has no sequences of glyphs without new
-- numbers, and none of other characters.
pub record HasKept (old chars : List ℕ) (IsNew : ℕ → ℕ → Type 0) (new : List ℕ) : Type 0 where
  pub defaults : (char selector : ℕ) → HasDefault new char selector ↔ (Contains chars char × HasDefault old char selector)
  pub mapped : (char selector number : ℕ) → HasMapped new char selector number ↔ IsKeptSequence old chars IsNew char selector number

-- the table has no sequences
abbrev pub HasNoSequences : (cmap : List ℕ) → Type 0
HasNoSequences cmap = (i : ℕ) → IsSubtable cmap i → ⊥

-- the new table has the sequences of these characters, or none if they exceed the limit
pub record KeepsSequences (old chars : List ℕ) (IsNew : ℕ → ℕ → Type 0) (new : List ℕ) : Type 0 where
  pub kept : (IsTooLong old chars → ⊥) → HasKept old chars IsNew new
  pub dropped : IsTooLong old chars → HasNoSequences new

-- The subtable of the sequences of these characters under new numbers. It is empty if the old table has no sequences, or if they exceed the
-- limit.
abbrev pub IsKept : (old chars origins subtable : List ℕ) → Type 0
IsKept old chars origins subtable = ((HasNoSequences old ⊎ IsTooLong old chars) × (subtable ≡ []))
    ⊎ ((IsTooLong old chars → ⊥) × ((table : List ℕ) × IsSequencesOf old table × Keeps table chars origins subtable))

-- A subtable is added if it has at least 21 bytes, as one record needs.
abbrev pub IsAdded : (plain subtable cmap : List ℕ) → Type 0
IsAdded plain subtable cmap = ((length subtable < 21) × (cmap ≡ plain)) ⊎ ((21 ≤ length subtable) × IsWith plain subtable cmap)

-- the table itself, or with an added subtable of variation sequences
abbrev pub MayHaveAdded : (plain cmap : List ℕ) → Type 0
MayHaveAdded plain cmap = (cmap ≡ plain) ⊎ ((subtable : List ℕ) × (number_at subtable 0 2 ≡ 14) × IsWith plain subtable cmap)

-- What a `cmap` table promises is true of it with an added subtable: a map is chosen, which gives the same glyphs, and so do the subtables of
-- format 4.
pub record IsMapLike (plain cmap : List ℕ) : Type 0 where
  pub added : MayHaveAdded plain cmap
  pub read : IsReadable plain → IsReadable cmap
  pub told : (mappings : List Mapping) → AreTold plain mappings → AreTold cmap mappings
  pub told_in_4 : (mappings : List Mapping) → AreToldIn4 plain mappings → AreToldIn4 cmap mappings
  pub format4 : HasFormat4 plain → HasFormat4 cmap
  pub ascend : AllAscend plain → AllAscend cmap

-- the characters of mappings
abbrev pub char_of : Mapping → ℕ
char_of pair = pair.char

abbrev pub chars_of : List Mapping → List ℕ
chars_of pairs = map char_of pairs

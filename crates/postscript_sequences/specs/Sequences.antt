-- The sequences of a subtable of format 14. Records, ranges and mappings are in ascending order. An entry counts only if all entries before
-- it are lower: the first of equal entries counts, and one after a greater entry does not.
use Rattle.std.specs.Prelude.{◌≡◌, ℕ, ◌+◌, ◌*◌, ◌-◌, ◌/◌, ◌<◌, ◌≤◌, List, length, drop, min, slice_index}
use Rattle.std.specs.List.{Contains}
use Rattle.postscript_sequences.specs.Tables.{number, records_of, selector_at, default_at, other_at, ranges_of, first_at, last_at, mappings_of, char_at, glyph_at}
use Rattle.postscript_sequences.specs.declared.sequences.Sequence.{Sequence}
use Rattle.postscript_sequences.specs.declared.sequences.Sequence.TheVariants.{Default, Glyph}
use Rattle.postscript_sequences.specs.declared.sequences.Sequences.{Sequences}

-- the record of a variation selector
pub record IsRecord (table : List ℕ) (selector i : ℕ) : Type 0 where
  pub listed : i < records_of table
  pub is : selector_at table i ≡ selector
  pub before : (k : ℕ) → k < i → selector_at table k < selector

-- the range of a Default UVS table that contains a character, which has 24 bits
pub record IsRange (table : List ℕ) (offset char k : ℕ) : Type 0 where
  pub listed : k < ranges_of table offset
  pub small : char < 0x1000000
  pub from : first_at table offset k ≤ char
  pub to : char ≤ last_at table offset k
  pub before : (j : ℕ) → j < k → last_at table offset j < char

-- the mapping of a character in a Non-Default UVS table, which has 24 bits
pub record IsMapping (table : List ℕ) (offset char k : ℕ) : Type 0 where
  pub listed : k < mappings_of table offset
  pub small : char < 0x1000000
  pub is : char_at table offset k ≡ char
  pub before : (j : ℕ) → j < k → char_at table offset j < char

-- The Default UVS table of record `i` has the character.
abbrev pub HasDefault : (table : List ℕ) → (i char : ℕ) → Type 0
HasDefault table i char = (k : ℕ) × IsRange table (default_at table i) char k

-- The Non-Default UVS table of record `i` has the character with this glyph. The Default UVS table, which counts first, does not have it.
pub record HasGlyph (table : List ℕ) (i char glyph : ℕ) : Type 0 where
  pub not_default : HasDefault table i char → ⊥
  pub k : ℕ
  pub mapping : IsMapping table (other_at table i) char k
  pub is : glyph_at table (other_at table i) k ≡ glyph

-- the sequence of a character and a variation selector uses the glyph of the character alone
abbrev pub IsDefault : (table : List ℕ) → (char selector : ℕ) → Type 0
IsDefault table char selector = (i : ℕ) × IsRecord table selector i × HasDefault table i char

-- the sequence of a character and a variation selector has a glyph of its own
abbrev pub IsMapped : (table : List ℕ) → (char selector glyph : ℕ) → Type 0
IsMapped table char selector glyph = (i : ℕ) × IsRecord table selector i × HasGlyph table i char glyph

-- what a table says of a sequence
abbrev pub Says : (table : List ℕ) → (char selector : ℕ) → Sequence → Type 0
Says table char selector Default = IsDefault table char selector
Says table char selector (Glyph glyph) = IsMapped table char selector glyph

-- the table does not have the sequence
pub record HasNone (table : List ℕ) (char selector : ℕ) : Type 0 where
  pub no_default : IsDefault table char selector → ⊥
  pub no_glyph : (glyph : ℕ) → IsMapped table char selector glyph → ⊥

-- a sequence of one of these characters, with any selector, has the glyph
abbrev pub IsGlyphOf : (table chars : List ℕ) → (glyph : ℕ) → Type 0
IsGlyphOf table chars glyph = (char : ℕ) × (selector : ℕ) × Contains chars char × IsMapped table char selector glyph

-- the bytes of the subtable, up to the end of the `cmap` table
abbrev pub table_of : Sequences → List ℕ
table_of sequences = sequences.table.now

-- The records of a `cmap` table have a platform, an encoding and an offset. Records past the end of the table do not count.
abbrev pub offset_at : (cmap : List ℕ) → (i : ℕ) → ℕ
offset_at cmap i = number cmap (4 + i * 8 + 4) 4

-- record `i` of a `cmap` table has platform 0, encoding 5 and a subtable of format 14
pub record IsOfFormat (cmap : List ℕ) (i : ℕ) : Type 0 where
  pub platform : number cmap (4 + i * 8) 2 ≡ 0
  pub encoding : number cmap (4 + i * 8 + 2) 2 ≡ 5
  pub format : number cmap (offset_at cmap i) 2 ≡ 14

-- the record is listed, and within the table
abbrev pub IsSubtable : (cmap : List ℕ) → (i : ℕ) → Type 0
IsSubtable cmap i = (i < min (number cmap 2 2) ((length cmap - 4) / 8)) × IsOfFormat cmap i

-- the sequences are those of the first such record
pub record AreFound (cmap : List ℕ) (i : ℕ) (sequences : Sequences) : Type 0 where
  pub here : IsSubtable cmap i
  pub first : (k : ℕ) → k < i → IsSubtable cmap k → ⊥
  pub bytes : table_of sequences ≡ drop (offset_at cmap i) cmap

-- the numbers are in ascending order, without duplicates
abbrev pub AreAscending : List ℕ → Type 0
AreAscending numbers = (i j : ℕ) → i < j → j < length numbers → slice_index numbers i < slice_index numbers j

-- How many bytes a subtable of format 14 has (OpenType 1.9, "cmap", "Format 14: Unicode Variation Sequences"). Each range has one character.
use Rattle.std.specs.Prelude.{◌≡◌, ◌⊎◌, ℕ, ◌+◌, ◌*◌, ◌<◌, ◌≤◌, List, [], ◌∷◌, length, sum_by}
use Rattle.postscript_sequences.specs.Keeping.{AreKept}
use Rattle.postscript_sequences.specs.Parts.{AreParts}
use Rattle.postscript_sequences.specs.Tables.{records_of}
use Rattle.postscript_sequences.specs.declared.parts.Part.{Part}

-- A table has a number of entries, which has four bytes, and the entries. Without entries there is no table.
abbrev pub table_size : {X : Type 0} → (entry : ℕ) → List X → ℕ
table_size entry [] = 0
table_size entry (x ∷ xs) = 4 + entry * length (x ∷ xs)

-- the two tables of a selector: A range has four bytes, and a mapping has five.
abbrev pub tables_size : Part → ℕ
tables_size one = table_size 4 one.defaults.items + table_size 5 one.mapped.items

-- A subtable has a header of 10 bytes, a record of 11 bytes for each selector, and the tables.
abbrev pub size_of : List Part → ℕ
size_of parts = 10 + 11 * length parts + sum_by tables_size parts

-- The kept sequences of some characters, under new glyph numbers, need this many bytes.
pub record NeedsBytes (table chars glyphs : List ℕ) (size : ℕ) : Type 0 where
  pub all : List Part
  pub are : AreParts table chars (records_of table) all
  pub parts : List Part
  pub kept : AreKept glyphs all parts
  pub is : size ≡ size_of parts

-- There are more than 65,536 glyphs, or the kept sequences need 2^32 bytes or more.
abbrev pub IsTooLarge : (table chars glyphs : List ℕ) → Type 0
IsTooLarge table chars glyphs = (65536 < length glyphs) ⊎ ((size : ℕ) × NeedsBytes table chars glyphs size × (4294967296 ≤ size))

-- Positions in the arrays of a record. Only private contracts and proofs use these names.
use Rattle.std.specs.Prelude.{ℕ, ◌<◌, ◌≤◌, List, Option, None, Some}
use Rattle.postscript_sequences.specs.Tables.{default_at, other_at, ranges_of, last_at, mappings_of, char_at}
use Rattle.postscript_sequences.specs.Sequences.{HasDefault, HasGlyph}
use Rattle.postscript_sequences.specs.declared.said.Cursor.{Cursor}
use Rattle.postscript_sequences.specs.declared.sequences.Sequence.{Sequence}
use Rattle.postscript_sequences.specs.declared.sequences.Sequence.TheVariants.{Default, Glyph}

-- the entries before an index are lower than a number
pub record IsBelow (key : ℕ → ℕ) (count least at : ℕ) : Type 0 where
  pub within : at ≤ count
  pub before : (k : ℕ) → k < at → key k < least

-- it is the index of the first entry that is not lower
pub record IsPlace (key : ℕ → ℕ) (count least at : ℕ) : Type 0 where
  pub below : IsBelow key count least at
  pub reached : at < count → least ≤ key at

-- a cursor in the two tables of record `i` is not past a character
pub record IsBehind (table : List ℕ) (i : ℕ) (cursor : Cursor) (char : ℕ) : Type 0 where
  pub range : IsBelow (last_at table (default_at table i)) (ranges_of table (default_at table i)) char cursor.range
  pub mapping : IsBelow (char_at table (other_at table i)) (mappings_of table (other_at table i)) char cursor.mapping

-- what record `i` says of a character
abbrev pub Tells : (table : List ℕ) → (i char : ℕ) → Option Sequence → Type 0
Tells table i char None = (HasDefault table i char → ⊥) × ((glyph : ℕ) → HasGlyph table i char glyph → ⊥)
Tells table i char (Some Default) = HasDefault table i char
Tells table i char (Some (Glyph glyph)) = HasGlyph table i char glyph

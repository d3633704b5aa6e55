-- A new subtable with the sequences of some characters, under new glyph numbers.
use Rattle.std.specs.Prelude.{◌≡◌, ◌↔◌, ℕ, ◌<◌, List, Some, length}
use Rattle.std.specs.List.{Contains}
use Rattle.postscript_sequences.specs.Numbers.{new_number}
use Rattle.postscript_sequences.specs.Sequences.{IsDefault, IsMapped}
use Rattle.postscript_sequences.specs.Tables.{default_at, format_of, length_of, other_at, records_of, selector_at}

-- The sequence of one of the characters has a glyph of its own, which has a new number.
abbrev pub IsMappedTo : (table chars glyphs : List ℕ) → (char selector number : ℕ) → Type 0
IsMappedTo table chars glyphs char selector number =
    Contains chars char × ((glyph : ℕ) × IsMapped table char selector glyph × (new_number glyphs glyph ≡ Some number))

-- The new table says of each sequence of these characters what the old one says, under new numbers. It has no other sequences. Its selectors are in
-- ascending order, and each record has one of the two tables.
pub record Keeps (table chars glyphs new : List ℕ) : Type 0 where
  pub format : format_of new ≡ 14
  pub size : length_of new ≡ length new
  pub order : (i j : ℕ) → i < j → j < records_of new → selector_at new i < selector_at new j
  pub filled : (i : ℕ) → i < records_of new → default_at new i ≡ 0 → other_at new i ≡ 0 → ⊥
  pub defaults : (char selector : ℕ) → IsDefault new char selector ↔ (Contains chars char × IsDefault table char selector)
  pub mapped : (char selector number : ℕ) → IsMapped new char selector number ↔ IsMappedTo table chars glyphs char selector number

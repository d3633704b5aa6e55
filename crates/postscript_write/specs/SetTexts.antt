-- Charsets as they are written (Technical Note 5176, section 13, "Charsets").
use Rattle.std.specs.Prelude.{◌≡◌, ◌↔◌, ℕ, ◌+◌, ◌*◌, ◌-◌, ◌<◌, ◌≤◌, List, ◌++◌, flat_map, length, slice_index_or}
use Rattle.std.specs.Borrow.{Bor}
use Rattle.std.specs.List.{range_with_len}
use Rattle.postscript_compact1.specs.CharSetAt.{IsCharSet}
use Rattle.postscript_compact1.specs.declared.char_set.CharSet.{CharSet}
use Rattle.postscript_view.specs.CharSets.{CharSetStandsAt}
use Rattle.postscript_view.specs.Naming.{NamesBehind}
use Rattle.postscript_view.specs.declared.char_set.Identifiers.{Identifiers}
use Rattle.postscript_write.specs.Texts.{number_text, TextStands}
use Rattle.postscript_write.specs.Whole.{CharSetEnds}

-- At any offset, the text is a charset that gives glyph i + 1 the SID at index i, if the SID fits in two bytes. It has no other byte, and is
-- no longer than format 0.
pub record NamesAll (text identifiers : List ℕ) : Type 0 where
  pub stands : (bytes : List ℕ) (place : ℕ) → TextStands text bytes place → Bor (List ℕ) →
      (own : Identifiers) × CharSetStandsAt own bytes place (1 + length identifiers)
  pub names : (bytes : List ℕ) (place i identifier : ℕ) (own : Identifiers) → TextStands text bytes place →
      CharSetStandsAt own bytes place (1 + length identifiers) → i < length identifiers → slice_index_or identifiers i 0 < 65536 →
      NamesBehind own i identifier ↔ (slice_index_or identifiers i 0 ≡ identifier)
  pub strict : (bytes : List ℕ) (place : ℕ) → TextStands text bytes place →
      (set : CharSet) × (next : ℕ) × IsCharSet bytes place (1 + length identifiers) set next
  pub ends : CharSetEnds text (1 + length identifiers) 0 (length text)
  pub few : length text ≤ 1 + 2 * length identifiers

-- format 0: two bytes for each glyph but the first
abbrev pub names_text : (identifiers : List ℕ) → List ℕ
names_text identifiers = number_text 1 0 ++ flat_map (number_text 2) identifiers

-- The SIDs continue from one glyph to the other. A range of format 1 has at most 256 glyphs.
abbrev pub Continue : (identifiers : List ℕ) → (first glyph : ℕ) → Type 0
Continue identifiers first glyph =
    (slice_index_or identifiers glyph 0 + first ≡ slice_index_or identifiers first 0 + glyph) × (first ≤ glyph) × (glyph < first + 256)

-- The SID of a glyph continues the last range, which has a glyph less than 256.
abbrev pub IsNext : (identifiers firsts : List ℕ) → (glyph : ℕ) → Type 0
IsNext identifiers firsts glyph =
    (0 < glyph) × (slice_index_or identifiers glyph 0 ≡ slice_index_or identifiers (glyph - 1) 0 + 1)
    × (glyph < slice_index_or firsts (length firsts - 1) 0 + 256)

-- a range: the SID of its first glyph in two bytes, and the number of glyphs after it in one
abbrev pub span_text : (identifiers firsts : List ℕ) → (r : ℕ) → List ℕ
span_text identifiers firsts r =
    number_text 2 (slice_index_or identifiers (slice_index_or firsts r (length identifiers)) 0)
    ++ number_text 1 (slice_index_or firsts (r + 1) (length identifiers) - slice_index_or firsts r (length identifiers) - 1)

-- format 1: the ranges
abbrev pub spans_text : (identifiers firsts : List ℕ) → List ℕ
spans_text identifiers firsts = number_text 1 1 ++ flat_map (span_text identifiers firsts) (range_with_len 0 (length firsts))

-- FDSelect as it is written (Technical Note 5176, section 19, "FDSelect").
use Rattle.std.specs.Prelude.{◌≡◌, ℕ, ◌+◌, ◌<◌, List, ◌++◌, flat_map, length, slice_index_or}
use Rattle.postscript_view.specs.Cids.{IsCidKeyed}
use Rattle.postscript_view.specs.Contents.{View}
use Rattle.postscript_view.specs.Layout.{IsLaidOut}
use Rattle.postscript_view.specs.Select.{IsSelected, Selects}
use Rattle.postscript_write.specs.Texts.{number_text, TextStands}
use Rattle.postscript_write.specs.Whole.{SelectEnds}

-- one-byte numbers
abbrev pub AreLow : List ℕ → Type 0
AreLow numbers = (i : ℕ) → i < length numbers → slice_index_or numbers i 0 < 256

-- At any offset, the text is an FDSelect that gives glyph i the number at index i, and it ends after the text.
pub record SelectsAll (text numbers : List ℕ) : Type 0 where
  pub gives : (bytes : List ℕ) (place i : ℕ) → TextStands text bytes place → i < length numbers →
      Selects bytes place (length numbers) i (slice_index_or numbers i 0)
  pub ends : (bytes : List ℕ) (place : ℕ) → TextStands text bytes place → SelectEnds bytes (length numbers) place (place + length text)

-- format 0: one byte for each glyph
abbrev pub listed_text : (numbers : List ℕ) → List ℕ
listed_text numbers = number_text 1 0 ++ flat_map (number_text 1) numbers

-- both glyphs have the same number
abbrev pub HaveSame : (numbers : List ℕ) → (first glyph : ℕ) → Type 0
HaveSame numbers first glyph = slice_index_or numbers glyph 0 ≡ slice_index_or numbers first 0

-- a range: its first glyph in two bytes, and the number in one
abbrev pub range_text : (numbers : List ℕ) → (first : ℕ) → List ℕ
range_text numbers first = number_text 2 first ++ number_text 1 (slice_index_or numbers first 0)

-- format 3: the number of ranges, the ranges, and the number of glyphs
abbrev pub ranges_text : (numbers firsts : List ℕ) → List ℕ
ranges_text numbers firsts =
    number_text 1 3 ++ (number_text 2 (length firsts) ++ (flat_map (range_text numbers) firsts ++ number_text 2 (length numbers)))

-- A font begins the bytes. If it is CID-keyed, FDSelect gives each glyph the number of one of its Font DICTs. With only one it is 0.
abbrev pub SelectsParts : (flat : List ℕ) → Type 0
SelectsParts flat = (font : View) × IsLaidOut flat 0 font × (IsCidKeyed font.tables.dictionary → (glyph : ℕ) →
    glyph < length font.char_strings →
    (number : ℕ) × IsSelected flat font.tables.dictionary (length font.char_strings) glyph number × (number < length font.parts))

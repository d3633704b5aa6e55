-- Ligature carets as they are written. Only contracts of private functions and proofs name this.
use Rattle.std.specs.Prelude.{◌≡◌, ◌⊎◌, ℕ, ◌+◌, ◌*◌, ◌/◌, ◌<◌, ◌≤◌, List, [], ◌∷◌, ◌++◌, length, slice_index}
use Rattle.std.specs.List.{All, Contains}
use Rattle.postscript_layout_write.specs.Carets.{Caret, carets_of, coordinate, point}
use Rattle.postscript_layout_write.specs.First.{all_below}
use Rattle.postscript_layout_write.specs.Holds.{Holds}
use Rattle.postscript_layout_write.specs.Sets.{AreOffsets, Places}
use Rattle.postscript_layout_write.specs.Text.{array_text, coverage_text, offsets_text, uint16}

-- a CaretValue table: its format and its number
abbrev pub value_of : Caret → List ℕ
value_of (coordinate number) = 1 ∷ number ∷ []
value_of (point index) = 2 ∷ index ∷ []

abbrev pub values_of : List Caret → List ℕ
values_of [] = []
values_of (caret ∷ carets) = value_of caret ++ values_of carets

-- numbers of two bytes
abbrev pub AreWords : List ℕ → Type 0
AreWords numbers = All (λ number. number < 65536) numbers

-- the offsets of the values in a LigGlyph table
abbrev pub value_offsets : (count n : ℕ) → List ℕ
value_offsets count n = all_below (λ i. (2 + count * 2 + i * 4) ∷ []) n

-- a LigGlyph table: the number of its values, their offsets, and the values
abbrev pub ligature_numbers : (count : ℕ) → (values : List ℕ) → List ℕ
ligature_numbers count values = count ∷ (value_offsets count count ++ values)

-- a LigGlyph table with some carets is at an offset
pub record HasCarets (carets : List Caret) (bytes : List ℕ) (offset : ℕ) : Type 0 where
  pub some : 0 < length carets
  pub few : length carets ≤ 10922
  pub small : AreWords (values_of carets)
  pub there : Holds (array_text (ligature_numbers (length carets) (values_of carets))) bytes offset

-- the LigGlyph tables of the glyphs below a number that have carets
pub record AreCarets (f : ℕ → List Caret) (count : ℕ) (glyphs offsets bytes : List ℕ) : Type 0 where
  pub same : length offsets ≡ length glyphs
  pub fit : (k : ℕ) → k < length glyphs → slice_index glyphs k < count
  pub each : (k : ℕ) → k < length glyphs → HasCarets (f (slice_index glyphs k)) bytes (slice_index offsets k)
  pub all : (x : ℕ) → x < count → (f x ≡ []) ⊎ Contains glyphs x

-- the LigGlyph table of a glyph is added, if there are values
pub data AddsValues (glyph : ℕ) (values glyphs offsets bytes newglyphs newoffsets newbytes : List ℕ) : Type 0 where
  no_values : values ≡ [] → newglyphs ≡ glyphs → newoffsets ≡ offsets → newbytes ≡ bytes →
      AddsValues glyph values glyphs offsets bytes newglyphs newoffsets newbytes
  some_values : (offset : ℕ) → 0 < length values → length values / 2 ≤ 10922 → newglyphs ≡ glyphs ++ glyph ∷ [] → newoffsets ≡ offsets ++ offset ∷ [] →
      Places (array_text (ligature_numbers (length values / 2) values)) bytes newbytes offset →
      AddsValues glyph values glyphs offsets bytes newglyphs newoffsets newbytes

-- a caret list: the offset of its coverage table, the number of glyphs, the offsets of their tables, and all these tables
unfoldable pub caret_list_text : (glyphs offsets bytes : List ℕ) → List ℕ
caret_list_text glyphs offsets bytes =
    uint16 (4 + length glyphs * 2) ++ (uint16 (length glyphs) ++ (offsets_text (8 + length glyphs * 4) offsets ++ (coverage_text glyphs ++ bytes)))

-- the caret list of the glyphs below a number, or nothing if they have no carets
pub data IsCaretList (f : ℕ → List Caret) (count : ℕ) (list : List ℕ) : Type 0 where
  no_list : ((x : ℕ) → x < count → f x ≡ []) → list ≡ [] → IsCaretList f count list
  a_list : (glyphs offsets bytes : List ℕ) → AreCarets f count glyphs offsets bytes → 0 < length glyphs → length glyphs ≤ 16380 →
      AreOffsets (8 + length glyphs * 4) offsets → list ≡ caret_list_text glyphs offsets bytes → IsCaretList f count list

-- the carets of the kept glyphs
abbrev pub kept_carets : (gdef kept : List ℕ) → ℕ → List Caret
kept_carets gdef kept k = carets_of gdef (slice_index kept k)

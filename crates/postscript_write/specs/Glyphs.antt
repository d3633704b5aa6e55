-- Glyphs of a font, and how they are written (Technical Note 5176, sections 14, 18 and 19; Technical Note 5177).
use Rattle.std.specs.List.{AllPass}
use Rattle.std.specs.Prelude.{◌≡◌, ◌≢◌, ◌⊎◌, ℕ, ◌<◌, List, [], ◌∷◌, Option, Some, None, length, slice_get, slice_index_or}
use Rattle.postscript_type2.specs.Program.Evaluation.{run_of}
use Rattle.postscript_type2.specs.Program.Inlined.{inlined_text}
use Rattle.postscript_type2.specs.Program.Inlining.{is_flat}
use Rattle.postscript_type2.specs.Program.Routines.{Lists, lent}
use Rattle.postscript_type2.specs.Program.Runs.{Run, fault_of, taken_by, width_of}
use Rattle.postscript_view.specs.Contents.{View, PrivateDict}
use Rattle.postscript_view.specs.Select.{IsSelected}

-- The number of the part of a glyph: FDSelect gives the number of one of several Font DICTs. A single part is the part of all glyphs.
pub record ShowsPart (bytes : List ℕ) (font : View) (glyph number : ℕ) : Type 0 where
  pub there : number < length font.parts
  pub selected : ((length font.parts ≡ 1) × (number ≡ 0))
      ⊎ ((length font.parts ≢ 1) × IsSelected bytes font.tables.dictionary (length font.char_strings) glyph number)

-- the run of a charstring with the global subroutines of the font and the local ones of a part
abbrev pub run_in : View → PrivateDict → List ℕ → Run
run_in font part code = run_of (lent font.tables.subroutines part.subroutines) code

-- With these subroutines a charstring draws the same as a run: it has the same operations and width, and its endchar has the same operands,
-- so that a `seac` glyph is still one. It does not fail, and it neither calls a subroutine nor returns.
pub record DrawsAs (lists : Lists) (code : List ℕ) (run : Run) : Type 0 where
  pub answers : (run_of lists code).answers ≡ run.answers
  pub width : width_of (run_of lists code) ≡ width_of run
  pub taken : taken_by (run_of lists code).end ≡ taken_by run.end
  pub faultless : fault_of (run_of lists code).end ≡ None
  pub no_calls : AllPass (λ said. is_flat said.operator) (run_of lists code).trace

-- The charstring of a text. If the text is empty, it is 0 and `drop`, which draw nothing, since an INDEX of a whole font has no empty
-- items.
abbrev pub code_text : List ℕ → List ℕ
code_text [] = 0x8b ∷ 0x0c ∷ 0x12 ∷ []
code_text (b ∷ text) = b ∷ text

-- The run of a glyph with the part of this number does not fail, and a charstring draws, with any subroutines, the same. It is the text of
-- that run without calls and returns. So hints, masks and all other operands are unchanged.
pub record IsCodeOf (font : View) (glyph number : ℕ) (flat : List ℕ) : Type 0 where
  pub code : List ℕ
  pub part : PrivateDict
  pub has_code : slice_get font.char_strings glyph ≡ Some code
  pub has_part : slice_get font.parts number ≡ Some part
  pub faultless : fault_of (run_in font part code).end ≡ None
  pub draws : (lists : Lists) → DrawsAs lists flat (run_in font part code)
  pub text : flat ≡ code_text (inlined_text (run_in font part code).trace)

-- A new glyph is made of an old one, or it is empty: only `endchar`.
abbrev pub Sources : Type 0
Sources = List (Option ℕ)

-- the number of an old glyph, or none for an empty glyph
abbrev pub IsGlyph : Option ℕ → (glyphs : ℕ) → Type 0
IsGlyph None glyphs = Unit {0}
IsGlyph (Some glyph) glyphs = glyph < glyphs

abbrev pub AreGlyphs : Sources → (glyphs : ℕ) → Type 0
AreGlyphs sources glyphs = (i : ℕ) → i < length sources → IsGlyph (slice_index_or sources i None) glyphs

abbrev pub IsCodeFor : View → Option ℕ → (number : ℕ) → List ℕ → Type 0
IsCodeFor font None number flat = flat ≡ 0x0e ∷ []
IsCodeFor font (Some glyph) number flat = IsCodeOf font glyph number flat

-- one charstring for each new glyph
pub record AreCodesOf (font : View) (sources : Sources) (numbers : List ℕ) (flats : List (List ℕ)) : Type 0 where
  pub many : length flats ≡ length sources
  pub each : (i : ℕ) → i < length sources →
      IsCodeFor font (slice_index_or sources i None) (slice_index_or numbers i 0) (slice_index_or flats i [])

-- the number of the part of a new glyph, which is 0 for an empty one
abbrev pub ShowsPartFor : List ℕ → View → Option ℕ → (number : ℕ) → Type 0
ShowsPartFor bytes font None number = number ≡ 0
ShowsPartFor bytes font (Some glyph) number = ShowsPart bytes font glyph number

-- one number of a part for each new glyph
pub record AreNumbersOf (bytes : List ℕ) (font : View) (sources : Sources) (numbers : List ℕ) : Type 0 where
  pub many : length numbers ≡ length sources
  pub each : (i : ℕ) → i < length sources → ShowsPartFor bytes font (slice_index_or sources i None) (slice_index_or numbers i 0)

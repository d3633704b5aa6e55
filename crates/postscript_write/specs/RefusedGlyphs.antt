-- Glyphs of a font that cannot be written.
use Rattle.std.specs.Prelude.{◌≡◌, ℕ, ◌<◌, List, Option, Some, None, length, slice_get, slice_index_or}
use Rattle.postscript_base.specs.RefusalOf.{refusal_of}
use Rattle.postscript_base.specs.declared.error.Error as causes
use Rattle.postscript_type2.specs.Program.Runs.{fault_of}
use Rattle.postscript_view.specs.CharSets.{IsCharSetOf}
use Rattle.postscript_view.specs.Encodings.{IsEncodingOf}
use Rattle.postscript_view.specs.Naming.{Names}
use Rattle.postscript_view.specs.Untold.{NoCharSet, NoEncoding}
use Rattle.postscript_view.specs.Contents.{View, PrivateDict}
use Rattle.postscript_view.specs.declared.char_set.CharSetView.{CharSetView}
use Rattle.postscript_view.specs.declared.encoding.EncodingView.{EncodingView}
use Rattle.postscript_write.specs.Glyphs.{AreNumbersOf, ShowsPart, ShowsPartFor, Sources, run_in}

-- the run of a glyph with the part of this number fails with this error
pub record IsRunRefused (font : View) (glyph number : ℕ) (cause : causes.Error) : Type 0 where
  pub code : List ℕ
  pub part : PrivateDict
  pub has_code : slice_get font.char_strings glyph ≡ Some code
  pub has_part : slice_get font.parts number ≡ Some part
  pub fault : fault_of (run_in font part code).end ≡ Some (refusal_of cause)

-- the run of a glyph with the part of this number does not fail
pub record IsRunFaultless (font : View) (glyph number : ℕ) : Type 0 where
  pub code : List ℕ
  pub part : PrivateDict
  pub has_code : slice_get font.char_strings glyph ≡ Some code
  pub has_part : slice_get font.parts number ≡ Some part
  pub faultless : fault_of (run_in font part code).end ≡ None

abbrev pub IsFaultless : View → Option ℕ → (number : ℕ) → Type 0
IsFaultless font None number = Unit {0}
IsFaultless font (Some glyph) number = IsRunFaultless font glyph number

-- This is the first glyph whose run fails, and it fails with this error.
pub record IsFirstRefused (font : View) (sources : Sources) (numbers : List ℕ) (glyph : ℕ) (cause : causes.Error) : Type 0 where
  pub place : ℕ
  pub there : place < length sources
  pub is : slice_index_or sources place None ≡ Some glyph
  pub refused : IsRunRefused font glyph (slice_index_or numbers place 0) cause
  pub before : (i : ℕ) → i < place → IsFaultless font (slice_index_or sources i None) (slice_index_or numbers i 0)

-- the first glyph that fails, if each glyph has its part
abbrev pub IsRefusedFirst : List ℕ → View → Sources → (glyph : ℕ) → causes.Error → Type 0
IsRefusedFirst bytes font sources glyph cause = (numbers : List ℕ) × AreNumbersOf bytes font sources numbers
    × IsFirstRefused font sources numbers glyph cause

-- a glyph of the list
abbrev pub IsOneOf : Sources → (glyph : ℕ) → Type 0
IsOneOf sources glyph = (place : ℕ) × (place < length sources) × (slice_index_or sources place None ≡ Some glyph)

-- the first glyph of the list that has no part
pub record IsPartless (bytes : List ℕ) (font : View) (sources : Sources) (glyph : ℕ) : Type 0 where
  pub one : IsOneOf sources glyph
  pub before : (i : ℕ) → i < one.0 → (number : ℕ) × ShowsPartFor bytes font (slice_index_or sources i None) number
  pub partless : glyph < length font.char_strings → (number : ℕ) → ShowsPart bytes font glyph number → ⊥

-- the charset has a SID or CID for a glyph of the list
abbrev pub IsNamed : CharSetView → Option ℕ → Type 0
IsNamed set source = (glyph identifier : ℕ) × (source ≡ Some glyph) × Names set glyph identifier

-- the first glyph of the list, after `.notdef`, that has no SID or CID in the charset
pub record IsNameless (bytes : List ℕ) (font : View) (sources : Sources) (glyph : ℕ) : Type 0 where
  pub one : IsOneOf sources glyph
  pub set : CharSetView
  pub has_set : IsCharSetOf set bytes font.tables.dictionary (length font.char_strings)
  pub before : (i : ℕ) → 0 < i → i < one.0 → IsNamed set (slice_index_or sources i None)
  pub nameless : (identifier : ℕ) → Names set glyph identifier → ⊥

-- the font has a charset; it has an encoding
abbrev pub HasSet : List ℕ → View → Type 0
HasSet bytes font = (set : CharSetView) × IsCharSetOf set bytes font.tables.dictionary (length font.char_strings)

abbrev pub HasEncoding : List ℕ → View → Type 0
HasEncoding bytes font = (encoding : EncodingView) × IsEncodingOf encoding bytes font.tables.dictionary

-- The font has no charset, for this reason.
pub record LacksSet (bytes : List ℕ) (font : View) (cause : causes.Error) : Type 0 where
  pub none : HasSet bytes font → ⊥
  pub why : NoCharSet cause bytes font.tables.dictionary (length font.char_strings)

-- The font has no encoding, for this reason.
pub record LacksEncoding (bytes : List ℕ) (font : View) (cause : causes.Error) : Type 0 where
  pub none : HasEncoding bytes font → ⊥
  pub why : NoEncoding cause bytes font.tables.dictionary

-- Each of these glyphs has its part, and its run does not fail.
abbrev pub AreSound : List ℕ → View → Sources → Type 0
AreSound bytes font sources =
    (numbers : List ℕ) × AreNumbersOf bytes font sources numbers
    × ((i : ℕ) → i < length sources → IsFaultless font (slice_index_or sources i None) (slice_index_or numbers i 0))

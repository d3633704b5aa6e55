-- A font without subroutines, made of glyphs of another font.
use Rattle.std.specs.Prelude.{◌≡◌, ℕ, ◌<◌, List, [], ◌∷◌, ◌++◌, Option, Some, None, length, take, slice_get, slice_index_or}
use Rattle.postscript_base.specs.Compact1.Defaults.{look}
use Rattle.postscript_base.specs.Compact1.Dictionary.{Dictionary}
use Rattle.postscript_base.specs.declared.compact1.operator.Operator.TheVariants as operators
use Rattle.postscript_type2.specs.Program.Inlined.{inlined_text}
use Rattle.postscript_type2.specs.Program.Routines.{Lists}
use Rattle.postscript_type2.specs.Program.Runs.{fault_of}
use Rattle.postscript_view.specs.Cids.{IsCidKeyed}
use Rattle.postscript_view.specs.Contents.{View, PrivateDict}
use Rattle.postscript_write.specs.Glyphs.{DrawsAs, ShowsPart, Sources, code_text, run_in}
use Rattle.postscript_write.specs.Parts.{SameBut, SamePart, SameParts, naming, placing}

-- The header of a new font: version 1.0, four bytes long, with four-byte offsets (section 6).
abbrev pub HasHeader : List ℕ → Type 0
HasHeader flat = take 4 flat ≡ 1 ∷ 0 ∷ 4 ∷ 4 ∷ []

-- a glyph of a font has this charstring and this part
pub record ShowsGlyph (bytes : List ℕ) (font : View) (glyph : ℕ) (code : List ℕ) (number : ℕ) (part : PrivateDict) : Type 0 where
  pub has_code : slice_get font.char_strings glyph ≡ Some code
  pub has_part : slice_get font.parts number ≡ Some part
  pub is_its : ShowsPart bytes font glyph number

-- A new glyph draws, with any subroutines, the same as the old glyph that it is made of, whose run does not fail. Its charstring is the
-- text of that run without calls and returns. Both glyphs have parts with the same number and content.
pub record IsMadeOf (bytes : List ℕ) (old : View) (glyph : ℕ) (flat : List ℕ) (new : View) (i : ℕ) : Type 0 where
  pub number : ℕ
  pub old_code : List ℕ
  pub old_part : PrivateDict
  pub was : ShowsGlyph bytes old glyph old_code number old_part
  pub new_code : List ℕ
  pub new_part : PrivateDict
  pub is : ShowsGlyph flat new i new_code number new_part
  pub faultless : fault_of (run_in old old_part old_code).end ≡ None
  pub draws : (lists : Lists) → DrawsAs lists new_code (run_in old old_part old_code)
  pub text : new_code ≡ code_text (inlined_text (run_in old old_part old_code).trace)
  pub same : SamePart old_part new_part

-- An empty glyph is only `endchar`, with the first part.
pub record IsEmptyGlyph (flat : List ℕ) (new : View) (i : ℕ) : Type 0 where
  pub code : slice_get new.char_strings i ≡ Some (0x0e ∷ [])
  pub part : ShowsPart flat new i 0

-- a new glyph is made of an old one, or empty
abbrev pub IsMade : List ℕ → View → Option ℕ → List ℕ → View → (i : ℕ) → Type 0
IsMade bytes old None flat new i = IsEmptyGlyph flat new i
IsMade bytes old (Some glyph) flat new i = IsMadeOf bytes old glyph flat new i

-- The new font has no subroutines. Apart from its glyphs, its offsets and its strings, it has the content of the old font.
pub record Repeats (old new : View) : Type 0 where
  pub names : new.tables.names ≡ old.tables.names
  pub no_global : new.tables.subroutines ≡ []
  pub dictionary : SameBut (placing ++ naming) old.tables.dictionary new.tables.dictionary
  pub parts : SameParts old.parts new.parts

-- The Top DICT of a CID-keyed font has no Private DICT: its Font DICTs have them (section 18).
abbrev pub NamesNoPrivateIfKeyed : Dictionary → Type 0
NamesNoPrivateIfKeyed map = IsCidKeyed map → look map operators.Private ≡ None

-- The Top DICT of any other font has neither Font DICTs nor FDSelect.
pub record NamesItsParts (map : Dictionary) : Type 0 where
  pub keyed : NamesNoPrivateIfKeyed map
  pub plain : (IsCidKeyed map → ⊥) → (look map operators.FDArray ≡ None) × (look map operators.FDSelect ≡ None)

-- The new font is made of these glyphs of the old font, in this order, and has no others. Apart from that it has the content of the old
-- font.
pub record HasGlyphsOf (sources : Sources) (bytes : List ℕ) (old : View) (flat : List ℕ) (new : View) : Type 0 where
  pub header : HasHeader flat
  pub repeats : Repeats old new
  pub unnamed : NamesItsParts new.tables.dictionary
  pub many : length new.char_strings ≡ length sources
  pub glyphs : (i : ℕ) → i < length sources → IsMade bytes old (slice_index_or sources i None) flat new i

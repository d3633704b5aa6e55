-- The glyphs of variable fonts at a location, as static glyphs.
use Rattle.std.specs.Prelude.{◌≡◌, ◌≢◌, ◌⊎◌, ℕ, ℤ, ◌<◌, List, Option, Some, Vec, length, slice_get, IfSome, IsSome}
use Rattle.std.specs.declared.alloc.Global.{Global}
use Rattle.postscript_base.specs.Compact1.Decimal.{Decimal}
use Rattle.postscript_type2.specs.Program.Routines.{texts}
use Rattle.postscript_cff2.specs.Parts as parts
use Rattle.postscript_cff2.specs.Parts.{HasPart}
use Rattle.postscript_cff2.specs.Shown.{view_shown}
use Rattle.postscript_cff2.specs.declared.font.Font.{Font}
use Rattle.postscript_variable.specs.declared.charstring.Charstring.{Charstring}
use Rattle.postscript_variable_font.specs.Glyphs.{IsCharstringOf}
use Rattle.postscript_variable_font.specs.declared.place.Place.{Place}
use Rattle.postscript_instance.specs.Advances.{AreAdvancesAt, LacksRoom}
use Rattle.postscript_instance.specs.declared.advances.AdvancesAt.{AdvancesAt}
use Rattle.postscript_instance.specs.declared.naming.Naming.{Naming}
use Rattle.postscript_instance.specs.declared.tables.Numbers.{Numbers}
use Rattle.postscript_instance.specs.declared.tables.Numbers.TheVariants as numbers
use Rattle.postscript_instance.specs.declared.error.Error.{Error}
use Rattle.postscript_instance.specs.declared.error.Error.TheVariants as errors
use Rattle.postscript_instance.specs.Far.{NotRounded}
use Rattle.postscript_instance.specs.Hints.{AreHintsAt}
use Rattle.postscript_instance.specs.Placed.{IsPlaceIn, LacksPlace}
use Rattle.postscript_instance.specs.Refusals.{IsMemory, NotWritten}
use Rattle.postscript_instance.specs.Rooms.{IsTooLarge}
use Rattle.postscript_instance.specs.Rounded.{IsRoundedOf}
use Rattle.postscript_instance.specs.Statics.{IsStaticOf}
use Rattle.postscript_instance.specs.Whole.{AreOfFont, IsMatrixOf}

-- a code that does the same as the charstring of a glyph at a location, with a width
pub record IsStaticGlyph (font : Font) (glyph : ℕ) (place : Place) (width : Option ℤ) (code : List ℕ) : Type 0 where
  pub charstring : Charstring
  pub is : IsCharstringOf font glyph place charstring
  pub static : IsStaticOf charstring width code

-- why there is no such code: the glyph or its well-formed Font DICT is missing, or no code is written for its charstring
abbrev pub NoStaticGlyph : Font → (glyph : ℕ) → Place → (width : Option ℤ) → Error → Type 0
NoStaticGlyph font glyph place width (errors.NoGlyph number) =
    (number ≡ glyph) × ((part : parts.PrivateDict) → HasPart font.bytes.now (view_shown font) glyph part → ⊥)
NoStaticGlyph font glyph place width e =
    (charstring : Charstring) × IsCharstringOf font glyph place charstring × NotWritten charstring width e

-- names are given, and their number is not the number of glyphs, or the font does not have exactly one Font DICT
abbrev pub IsMiscounted : Font → Naming → Error → Type 0
IsMiscounted font naming errors.OtherNames = IfSome naming.glyphs (λ names. length names.now ≢ length (view_shown font).char_strings)
    × IsSome naming.glyphs
IsMiscounted font naming errors.NotOneDictionary = IsSome naming.glyphs × (length (view_shown font).font_dictionaries ≢ 1)
IsMiscounted font naming e = ⊥

-- there are no names, or as many as glyphs, with one Font DICT
abbrev pub IsCounted : Font → Naming → (count : ℕ) → Type 0
IsCounted font naming count =
    IfSome naming.glyphs (λ names. (length names.now ≡ count) × (length (view_shown font).font_dictionaries ≡ 1))

-- the names do not fit the font, or the advance of a glyph cannot be a width
abbrev pub LacksWidths : Font → Naming → AdvancesAt → Error → Type 0
LacksWidths font naming advances e = IsMiscounted font naming e ⊎ LacksRoom advances (length (view_shown font).char_strings) e

-- the advances of all glyphs at the location, in 16.16 bits
abbrev pub AreWidthsOf : Font → AdvancesAt → (widths : List ℤ) → Type 0
AreWidthsOf font advances widths = AreAdvancesAt advances (length (view_shown font).char_strings) widths

-- a code does the same as a glyph at the location, with its width
abbrev pub DoesAt : Font → Place → (glyph : ℕ) → (width : ℤ) → (code : List ℕ) → Type 0
DoesAt font place glyph width code = IsStaticGlyph font glyph place (Some width) code

-- the codes of the first `count` glyphs, for each of which `does` holds with its width
pub record AreCodes (does : (glyph : ℕ) → (width : ℤ) → (code : List ℕ) → Type 0) (widths : List ℤ) (count : ℕ)
    (codes : List (Vec ℕ Global)) : Type 0 where
  pub counted : length codes ≡ count
  pub each : (glyph : ℕ) → glyph < count → (width : ℤ) × (code : Vec ℕ Global) × (slice_get widths glyph ≡ Some width) ×
      (slice_get codes glyph ≡ Some code) × does glyph width code.items

-- a code that does the same in whole units as the charstring of a glyph at a location, with a width
pub record IsRoundedGlyph (font : Font) (glyph : ℕ) (place : Place) (width : Option ℤ) (code : List ℕ) : Type 0 where
  pub charstring : Charstring
  pub is : IsCharstringOf font glyph place charstring
  pub rounded : IsRoundedOf charstring width code

-- why there is no such code: the glyph or its well-formed Font DICT is missing, or no code is written for its charstring
abbrev pub NoRoundedGlyph : Font → (glyph : ℕ) → Place → (width : Option ℤ) → Error → Type 0
NoRoundedGlyph font glyph place width (errors.NoGlyph number) =
    (number ≡ glyph) × ((part : parts.PrivateDict) → HasPart font.bytes.now (view_shown font) glyph part → ⊥)
NoRoundedGlyph font glyph place width e =
    (charstring : Charstring) × IsCharstringOf font glyph place charstring × NotRounded charstring width e

-- a code does the same in whole units as a glyph at the location, with its width
abbrev pub DoesRoundedAt : Font → Place → (glyph : ℕ) → (width : ℤ) → (code : List ℕ) → Type 0
DoesRoundedAt font place glyph width code = IsRoundedGlyph font glyph place (Some width) code

-- the same with exact numbers or in whole units, and why there is no such code
abbrev pub DoesIn : Numbers → Font → Place → (glyph : ℕ) → (width : ℤ) → (code : List ℕ) → Type 0
DoesIn numbers.Exact = DoesAt
DoesIn numbers.Whole = DoesRoundedAt

abbrev pub NoCodeIn : Numbers → Font → Place → (glyph : ℕ) → (width : ℤ) → Error → Type 0
NoCodeIn numbers.Exact font place glyph width e = NoStaticGlyph font glyph place (Some width) e
NoCodeIn numbers.Whole font place glyph width e = NoRoundedGlyph font glyph place (Some width) e

-- The first glyph for which no code is written with its width. All glyphs before it have codes.
pub record HasNoCode (numbers : Numbers) (font : Font) (place : Place) (widths : List ℤ) (e : Error) : Type 0 where
  pub glyph : ℕ
  pub width : ℤ
  pub is_width : slice_get widths glyph ≡ Some width
  pub before : List (Vec ℕ Global)
  pub are_codes : AreCodes (DoesIn numbers font place) widths glyph before
  pub refused : NoCodeIn numbers font place glyph width e

-- there is such a glyph, or memory runs out
abbrev pub LacksCode : Numbers → Font → Place → (widths : List ℤ) → Error → Type 0
LacksCode numbers font place widths e = IsMemory e ⊎ HasNoCode numbers font place widths e

-- the texts of Private DICTs, and the bytes of FontMatrix, of a font at a location
abbrev pub ArePrivatesAt : Font → Place → (privates : List (Vec ℕ Global)) → Type 0
ArePrivatesAt font place privates = AreOfFont font (texts privates) × AreHintsAt font place (texts privates) (length (texts privates))

abbrev pub IsMatrixIn : Font → (bytes : List ℕ) → Type 0
IsMatrixIn font bytes = (matrix : Option (List Decimal)) × IsMatrixOf font.dictionary.bytes.now bytes matrix

-- each glyph has a code, and the table with these codes, the Private DICTs and FontMatrix is too large
abbrev pub HasNoRoom : Numbers → Font → Naming → Place → (widths : List ℤ) → Error → Type 0
HasNoRoom numbers font naming place widths e = (e ≡ errors.TooLarge) × ((codes : List (Vec ℕ Global)) × (privates : List (Vec ℕ Global))
    × (matrix : List ℕ) × AreCodes (DoesIn numbers font place) widths (length widths) codes × ArePrivatesAt font place privates
    × IsMatrixIn font matrix × IsTooLarge font naming codes privates matrix)

-- Why there is no table. Widths or a location are missing, or a glyph has no code there with its width. Other causes are a table that is
-- too large, and `Memory`.
abbrev pub LacksTable : Numbers → Font → Naming → AdvancesAt → Error → Type 0
LacksTable numbers font naming advances e = LacksWidths font naming advances e ⊎ LacksPlace font.store e
    ⊎ ((place : Place) × (widths : List ℤ) × IsPlaceIn font.store advances.coordinates.now place × AreWidthsOf font advances widths
    × (LacksCode numbers font place widths e ⊎ HasNoRoom numbers font naming place widths e))

abbrev pub NoTable : Font → Naming → AdvancesAt → Error → Type 0
NoTable font naming advances e = LacksTable numbers.Exact font naming advances e

-- the same for a table in whole units
abbrev pub NoRoundedTable : Font → Naming → AdvancesAt → Error → Type 0
NoRoundedTable font naming advances e = LacksTable numbers.Whole font naming advances e

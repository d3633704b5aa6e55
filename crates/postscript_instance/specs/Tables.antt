-- The `CFF ` table of a variable font at a location (Technical Note 5176).
use Rattle.std.specs.Prelude.{◌≡◌, ℕ, ℤ, pos, ◌<◌, List, [], ◌∷◌, Some, length, slice_get}
use Rattle.postscript_base.specs.Compact1.Decimal.{Decimal, to_i32}
use Rattle.postscript_base.specs.Compact1.Defaults.{look, first_of}
use Rattle.postscript_base.specs.declared.compact1.operator.Operator.TheVariants.{NominalWidthX}
use Rattle.postscript_cff2.specs.declared.font.Font.{Font}
use Rattle.postscript_variable_font.specs.declared.place.Place.{Place}
use Rattle.postscript_view.specs.Layout.{IsLaidOut}
use Rattle.postscript_view.specs.Contents.{PrivateDict, View}
use Rattle.postscript_instance.specs.Dictionaries.{KeepDictionaries}
use Rattle.postscript_instance.specs.Glyphs.{AreWidthsOf, DoesAt, DoesRoundedAt}
use Rattle.postscript_instance.specs.Hints.{AreHintsAt}
use Rattle.postscript_instance.specs.Naming.{IsCalled}
use Rattle.postscript_instance.specs.Placed.{IsPlaceIn}
use Rattle.postscript_instance.specs.Whole.{AreOfFont, IsWhole}
use Rattle.postscript_instance.specs.declared.advances.AdvancesAt.{AdvancesAt}
use Rattle.postscript_instance.specs.declared.naming.Naming.{Naming}

-- a Private DICT without local subroutines, whose nominal width is 0, so that the width in a charstring is the advance
abbrev pub IsPlainPart : PrivateDict → Type 0
IsPlainPart part = (part.subroutines ≡ [])
    × ((width : Decimal) × (first_of (look part.dictionary NominalWidthX) ≡ Some width) × (to_i32 width ≡ Some (pos 0)))

abbrev pub ArePlainParts : List PrivateDict → Type 0
ArePlainParts [] = Unit {0}
ArePlainParts (part ∷ parts) = IsPlainPart part × ArePlainParts parts

-- The bytes contain a font without subroutines (Technical Note 5176, "CFF Data Layout"). For each glyph, `does` holds of its advance
-- and its code, and nothing is added to widths. Each glyph has the Font DICT with the same number as in the other font. The font and its
-- glyphs have the given names. The Private DICTs have the hints at the location. There is nothing else in the bytes: all of them are parts
-- of the table.
pub record IsTable (does : (glyph : ℕ) → (advance : ℤ) → (code : List ℕ) → Type 0) (font : Font) (place : Place) (naming : Naming)
    (advances : List ℤ) (bytes : List ℕ) : Type 0 where
  pub view : View
  pub stands : IsLaidOut bytes 0 view
  pub counted : length view.char_strings ≡ length advances
  pub glyphs : (glyph : ℕ) → glyph < length advances →
      (advance : ℤ) × (code : List ℕ) × (slice_get advances glyph ≡ Some advance) ×
      (slice_get view.char_strings glyph ≡ Some code) × does glyph advance code
  pub none : view.tables.subroutines ≡ []
  pub parts : ArePlainParts view.parts
  pub called : IsCalled naming bytes view
  pub dictionaries : KeepDictionaries font bytes view (length advances)
  pub privates : List (List ℕ)
  pub are_privates : AreOfFont font privates
  pub hints : AreHintsAt font place privates (length privates)
  pub whole : IsWhole font naming view.char_strings privates bytes

-- The table of a font at the location of its advances. For each glyph, `does` holds of its code there, with its advance there as width.
pub record IsTableAt (does : Font → Place → (glyph : ℕ) → (advance : ℤ) → (code : List ℕ) → Type 0) (font : Font) (naming : Naming)
    (advances : AdvancesAt) (bytes : List ℕ) : Type 0 where
  pub place : Place
  pub is_place : IsPlaceIn font.store advances.coordinates.now place
  pub widths : List ℤ
  pub are_widths : AreWidthsOf font advances widths
  pub is_table : IsTable (does font place) font place naming widths bytes

-- the table of a location: each code does the same as its glyph there
abbrev pub IsTableOf : Font → Naming → AdvancesAt → List ℕ → Type 0
IsTableOf font naming advances bytes = IsTableAt DoesAt font naming advances bytes

-- the same in whole units
abbrev pub IsRoundedTableOf : Font → Naming → AdvancesAt → List ℕ → Type 0
IsRoundedTableOf font naming advances bytes = IsTableAt DoesRoundedAt font naming advances bytes

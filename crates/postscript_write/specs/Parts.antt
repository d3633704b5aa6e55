-- DICTs that keep their content (Technical Note 5176, sections 9, 15 and 18).
use Rattle.std.specs.Prelude.{◌≡◌, ◌⊎◌, ℕ, ℤ, List, [], ◌∷◌, Option, Some, None, length, slice_get, All}
use Rattle.postscript_base.specs.Compact1.Defaults.{look}
use Rattle.postscript_base.specs.Compact1.Dictionary.{Dictionary}
use Rattle.postscript_base.specs.declared.compact1.operator.Operator.{Operator}
use Rattle.postscript_base.specs.declared.compact1.operator.Operator.TheVariants.{BaseFontName, CharSet, CharStrings, Copyright, Encoding, FDArray, FDSelect, FamilyName, FontName, FullName, Notice, PostScript, Private, Subrs, Version, Weight}
use Rattle.postscript_view.specs.Advances.{advance_of}
use Rattle.postscript_view.specs.Contents.{PrivateDict}

-- these operators have the same operands
abbrev pub SameAt : List Operator → Dictionary → Dictionary → Type 0
SameAt operators old new = All (λ operator. look new operator ≡ look old operator) operators

-- an operator is one of these
abbrev pub IsAmong : Operator → List Operator → Type 0
IsAmong operator [] = ⊥
IsAmong operator (other ∷ others) = (operator ≡ other) ⊎ IsAmong operator others

-- each operator has the same operands, or is one of these
abbrev pub SameBut : List Operator → Dictionary → Dictionary → Type 0
SameBut operators old new = (operator : Operator) → (look new operator ≡ look old operator) ⊎ IsAmong operator operators

-- the operators of a Top DICT that have offsets (Table 9, section 18)
abbrev pub placing : List Operator
placing = CharSet ∷ Encoding ∷ CharStrings ∷ Private ∷ FDArray ∷ FDSelect ∷ []

-- the operators that have a SID (section 9)
abbrev pub naming : List Operator
naming = Version ∷ Notice ∷ Copyright ∷ FullName ∷ FamilyName ∷ Weight ∷ PostScript ∷ BaseFontName ∷ FontName ∷ []

-- both have a Font DICT with the same content apart from the offset of the Private DICT, or neither has a Font DICT
abbrev pub SameFont : Option Dictionary → Option Dictionary → Type 0
SameFont None None = Unit {0}
SameFont (Some old) (Some new) = SameBut (Private ∷ []) old new
SameFont None (Some new) = ⊥
SameFont (Some old) None = ⊥

-- A part without subroutines that otherwise has the content of another one: glyphs with the same width in their charstrings, or none, have
-- the same advance.
pub record SamePart (old new : PrivateDict) : Type 0 where
  pub private : SameBut (Subrs ∷ []) old.dictionary new.dictionary
  pub no_local : new.subroutines ≡ []
  pub font : SameFont old.font new.font
  pub advance : (width : Option ℤ) → advance_of new.dictionary width ≡ advance_of old.dictionary width

-- one part for each old part, with the same content
pub record SameParts (old new : List PrivateDict) : Type 0 where
  pub many : length new ≡ length old
  pub each : (number : ℕ) (part new_part : PrivateDict) → slice_get old number ≡ Some part → slice_get new number ≡ Some new_part →
      SamePart part new_part

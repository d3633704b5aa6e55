-- DICTs of an opened font that give something the offset 0, where the header is.
use Rattle.std.specs.Prelude.{◌≡◌, ℕ, ℤ, pos, ◌+ℤ◌, List, slice_get, Option, Some, None}
use Rattle.postscript_base.specs.Compact1.Dictionary.{Dictionary}
use Rattle.postscript_base.specs.declared.compact1.operator.Operator.TheVariants as operators
use Rattle.postscript_compact1.specs.FontSet.Parts.{HasFirst, HasPrivate}
use Rattle.postscript_view.specs.declared.font.FontView.{FontView}
use Rattle.postscript_view.specs.declared.private_dict.PrivateDict.{PrivateDict}

-- the DICT that has the Private DICT of a part: its Font DICT, or otherwise the Top DICT of the font
abbrev pub naming : Dictionary → Option Dictionary → Dictionary
naming map None = map
naming map (Some font_dictionary) = font_dictionary

-- the local subroutines of the Private DICT that a DICT names have the offset `place`
abbrev pub NamesSubroutines : List ℕ → (map local : Dictionary) → (place : ℕ) → Type 0
NamesSubroutines bytes map local place =
    (offset : ℕ) × (z : ℤ) × HasPrivate bytes 0 map offset local × HasFirst local operators.Subrs z × (pos offset +ℤ z ≡ pos place)

-- the same for a part of an opened font
abbrev pub NamesSubroutinesOf : FontView → PrivateDict → (place : ℕ) → Type 0
NamesSubroutinesOf view part place = NamesSubroutines view.bytes.now (naming view.dictionary part.font_dictionary) part.dictionary place

-- The DICTs of a font give nothing the offset 0, where its header is. For C an offset of 0 means that the part is absent.
pub record NamesNoStart (view : FontView) : Type 0 where
  pub char_strings : HasFirst view.dictionary operators.CharStrings (pos 0) → ⊥
  pub array : HasFirst view.dictionary operators.FDArray (pos 0) → ⊥
  pub selection : HasFirst view.dictionary operators.FDSelect (pos 0) → ⊥
  pub subroutines : (fd : ℕ) (part : PrivateDict) → slice_get view.parts.items fd ≡ Some part → NamesSubroutinesOf view part 0 → ⊥

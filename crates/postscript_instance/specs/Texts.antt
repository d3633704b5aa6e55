-- The text of Type 2 charstrings without calls (Technical Note 5177, "Charstring Operator Encoding", Appendix A).
use Rattle.std.specs.Prelude.{ℕ, ℤ, List, [], ◌∷◌, ◌++◌, Option, Some, None}
use Rattle.postscript_type2.specs.declared.operation.Operator.{Operator}
use Rattle.postscript_type2.specs.declared.operation.Operator.TheVariants.{HStem, VStem, VMoveTo, RLineTo, HLineTo, VLineTo, RRCurveTo, HStemHM, HintMask, CntrMask, RMoveTo, HMoveTo, VStemHM, RCurveLine, RLineCurve, VVCurveTo, HHCurveTo, VHCurveTo, HVCurveTo, HFlex, Flex, HFlex1, Flex1}
use Rattle.postscript_variable.specs.Sayings.{Phrase}
use Rattle.postscript_instance.specs.Numbers.{numbers_text}

-- The bytes of an operator that draws, declares stems or masks. All others have none.
abbrev pub operator_text : Operator → List ℕ
operator_text HStem = 0x01 ∷ []
operator_text VStem = 0x03 ∷ []
operator_text VMoveTo = 0x04 ∷ []
operator_text RLineTo = 0x05 ∷ []
operator_text HLineTo = 0x06 ∷ []
operator_text VLineTo = 0x07 ∷ []
operator_text RRCurveTo = 0x08 ∷ []
operator_text HStemHM = 0x12 ∷ []
operator_text HintMask = 0x13 ∷ []
operator_text CntrMask = 0x14 ∷ []
operator_text RMoveTo = 0x15 ∷ []
operator_text HMoveTo = 0x16 ∷ []
operator_text VStemHM = 0x17 ∷ []
operator_text RCurveLine = 0x18 ∷ []
operator_text RLineCurve = 0x19 ∷ []
operator_text VVCurveTo = 0x1a ∷ []
operator_text HHCurveTo = 0x1b ∷ []
operator_text VHCurveTo = 0x1e ∷ []
operator_text HVCurveTo = 0x1f ∷ []
operator_text HFlex = 0x0c ∷ 0x22 ∷ []
operator_text Flex = 0x0c ∷ 0x23 ∷ []
operator_text HFlex1 = 0x0c ∷ 0x24 ∷ []
operator_text Flex1 = 0x0c ∷ 0x25 ∷ []
operator_text op = []

-- the numbers of a width: one or none
abbrev pub width_numbers : Option ℤ → List ℤ
width_numbers (Some width) = width ∷ []
width_numbers None = []

-- the numbers before an operator: the width, the stems that a mask implies, and the operands
abbrev pub numbers_of : Option ℤ → Phrase → List ℤ
numbers_of width x = width_numbers width ++ (x.stems ++ x.operands)

-- the numbers and the operator, without the mask after it
abbrev pub phrase_text : Option ℤ → Phrase → List ℕ
phrase_text width x = numbers_text (numbers_of width x) ++ operator_text x.operator

-- all operations, with the width before the first one and endchar after the last
abbrev pub code_text : Option ℤ → List Phrase → List ℕ
code_text width [] = numbers_text (width_numbers width) ++ 0x0e ∷ []
code_text width (x ∷ xs) = phrase_text width x ++ (x.mask ++ code_text None xs)

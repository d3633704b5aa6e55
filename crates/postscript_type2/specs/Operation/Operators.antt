-- The operators and their codes (Technical Note 5177, Appendix A, "Type 2 Charstring Command Codes").
use Rattle.std.specs.Prelude.{ℕ, ◌==◌, List, [], ◌∷◌, Option, Some, None, if◌then◌else◌, codes}
use Rattle.postscript_type2.specs.declared.operation.Operator.{Operator}
use Rattle.postscript_type2.specs.declared.operation.Operator.TheVariants.{HStem, VStem, VMoveTo, RLineTo, HLineTo, VLineTo, RRCurveTo, CallSubr, Return, EndChar, HStemHM, HintMask, CntrMask, RMoveTo, HMoveTo, VStemHM, RCurveLine, RLineCurve, VVCurveTo, HHCurveTo, CallGSubr, VHCurveTo, HVCurveTo, And, Or, Not, Abs, Add, Sub, Div, Neg, Eq, Drop, Put, Get, IfElse, Random, Mul, Sqrt, Dup, Exch, Index, Roll, HFlex, Flex, HFlex1, Flex1}

-- a code of two bytes is 0x0c00 plus the second byte
abbrev pub operators : List (ℕ × Operator)
operators =
    (0x01, HStem) ∷ (0x03, VStem) ∷ (0x04, VMoveTo) ∷ (0x05, RLineTo) ∷ (0x06, HLineTo) ∷
    (0x07, VLineTo) ∷ (0x08, RRCurveTo) ∷ (0x0a, CallSubr) ∷ (0x0b, Return) ∷ (0x0e, EndChar) ∷
    (0x12, HStemHM) ∷ (0x13, HintMask) ∷ (0x14, CntrMask) ∷ (0x15, RMoveTo) ∷ (0x16, HMoveTo) ∷
    (0x17, VStemHM) ∷ (0x18, RCurveLine) ∷ (0x19, RLineCurve) ∷ (0x1a, VVCurveTo) ∷ (0x1b, HHCurveTo) ∷
    (0x1d, CallGSubr) ∷ (0x1e, VHCurveTo) ∷ (0x1f, HVCurveTo) ∷ (0x0c03, And) ∷ (0x0c04, Or) ∷
    (0x0c05, Not) ∷ (0x0c09, Abs) ∷ (0x0c0a, Add) ∷ (0x0c0b, Sub) ∷ (0x0c0c, Div) ∷ (0x0c0e, Neg) ∷
    (0x0c0f, Eq) ∷ (0x0c12, Drop) ∷ (0x0c14, Put) ∷ (0x0c15, Get) ∷ (0x0c16, IfElse) ∷
    (0x0c17, Random) ∷ (0x0c18, Mul) ∷ (0x0c1a, Sqrt) ∷ (0x0c1b, Dup) ∷ (0x0c1c, Exch) ∷
    (0x0c1d, Index) ∷ (0x0c1e, Roll) ∷ (0x0c22, HFlex) ∷ (0x0c23, Flex) ∷ (0x0c24, HFlex1) ∷
    (0x0c25, Flex1) ∷ []

abbrev pub lookup : {A : Type 0} → List (ℕ × A) → ℕ → Option A
lookup [] code = None
lookup (entry ∷ entries) code = if entry.0 == code then Some entry.1 else lookup entries code

abbrev pub operator_of : ℕ → Option Operator
operator_of code = lookup operators code

-- the name of a variant
abbrev pub name_of : Operator → List ℕ
name_of HStem = codes "HStem"
name_of VStem = codes "VStem"
name_of VMoveTo = codes "VMoveTo"
name_of RLineTo = codes "RLineTo"
name_of HLineTo = codes "HLineTo"
name_of VLineTo = codes "VLineTo"
name_of RRCurveTo = codes "RRCurveTo"
name_of CallSubr = codes "CallSubr"
name_of Return = codes "Return"
name_of EndChar = codes "EndChar"
name_of HStemHM = codes "HStemHM"
name_of HintMask = codes "HintMask"
name_of CntrMask = codes "CntrMask"
name_of RMoveTo = codes "RMoveTo"
name_of HMoveTo = codes "HMoveTo"
name_of VStemHM = codes "VStemHM"
name_of RCurveLine = codes "RCurveLine"
name_of RLineCurve = codes "RLineCurve"
name_of VVCurveTo = codes "VVCurveTo"
name_of HHCurveTo = codes "HHCurveTo"
name_of CallGSubr = codes "CallGSubr"
name_of VHCurveTo = codes "VHCurveTo"
name_of HVCurveTo = codes "HVCurveTo"
name_of And = codes "And"
name_of Or = codes "Or"
name_of Not = codes "Not"
name_of Abs = codes "Abs"
name_of Add = codes "Add"
name_of Sub = codes "Sub"
name_of Div = codes "Div"
name_of Neg = codes "Neg"
name_of Eq = codes "Eq"
name_of Drop = codes "Drop"
name_of Put = codes "Put"
name_of Get = codes "Get"
name_of IfElse = codes "IfElse"
name_of Random = codes "Random"
name_of Mul = codes "Mul"
name_of Sqrt = codes "Sqrt"
name_of Dup = codes "Dup"
name_of Exch = codes "Exch"
name_of Index = codes "Index"
name_of Roll = codes "Roll"
name_of HFlex = codes "HFlex"
name_of Flex = codes "Flex"
name_of HFlex1 = codes "HFlex1"
name_of Flex1 = codes "Flex1"

-- What is written are phrases.
use Rattle.std.proofs.Common.{refl, sym, subst, ℕ, ℤ, List, [], ◌∷◌, ◌++◌, append_assoc, arith}
use Rattle.postscript_type2.specs.declared.operation.Operator.{Operator}
use Rattle.postscript_type2.specs.declared.operation.Operator.TheVariants.{HStem, VStem, VMoveTo, RLineTo, HLineTo, VLineTo, RRCurveTo, EndChar, HStemHM, HintMask, CntrMask, RMoveTo, HMoveTo, VStemHM, RCurveLine, RLineCurve, VVCurveTo, HHCurveTo, VHCurveTo, HVCurveTo, HFlex, Flex, HFlex1, Flex1}
use Rattle.postscript_type2.specs.Operation.Kinds.{Kind, Draws, DeclaresStems, Masks, kind}
use Rattle.postscript_type2.specs.Program.Phrases.{IsPhrase, operator, escaped_operator, after_number}
use Rattle.postscript_variable.specs.Defaults.{AreHeld}
use Rattle.postscript_instance.specs.Numbers.{number_text, numbers_text}
use Rattle.postscript_instance.specs.Texts.{operator_text}
use Rattle.postscript_instance.proofs.Shortest.{spells}

-- an operator that draws, declares stems or masks
abbrev pub IsAnswered : Kind → Type 0
IsAnswered (Draws takes) = Unit {0}
IsAnswered (DeclaresStems takes) = Unit {0}
IsAnswered (Masks takes) = Unit {0}
IsAnswered kind = ⊥

operator-spelled : (op : Operator) → IsAnswered (kind op) → IsPhrase (operator_text op) [] op
operator-spelled HStem h = operator 0x01 HStem (omega arith) refl
operator-spelled VStem h = operator 0x03 VStem (omega arith) refl
operator-spelled VMoveTo h = operator 0x04 VMoveTo (omega arith) refl
operator-spelled RLineTo h = operator 0x05 RLineTo (omega arith) refl
operator-spelled HLineTo h = operator 0x06 HLineTo (omega arith) refl
operator-spelled VLineTo h = operator 0x07 VLineTo (omega arith) refl
operator-spelled RRCurveTo h = operator 0x08 RRCurveTo (omega arith) refl
operator-spelled HStemHM h = operator 0x12 HStemHM (omega arith) refl
operator-spelled HintMask h = operator 0x13 HintMask (omega arith) refl
operator-spelled CntrMask h = operator 0x14 CntrMask (omega arith) refl
operator-spelled RMoveTo h = operator 0x15 RMoveTo (omega arith) refl
operator-spelled HMoveTo h = operator 0x16 HMoveTo (omega arith) refl
operator-spelled VStemHM h = operator 0x17 VStemHM (omega arith) refl
operator-spelled RCurveLine h = operator 0x18 RCurveLine (omega arith) refl
operator-spelled RLineCurve h = operator 0x19 RLineCurve (omega arith) refl
operator-spelled VVCurveTo h = operator 0x1a VVCurveTo (omega arith) refl
operator-spelled HHCurveTo h = operator 0x1b HHCurveTo (omega arith) refl
operator-spelled VHCurveTo h = operator 0x1e VHCurveTo (omega arith) refl
operator-spelled HVCurveTo h = operator 0x1f HVCurveTo (omega arith) refl
operator-spelled HFlex h = escaped_operator 0x22 HFlex refl
operator-spelled Flex h = escaped_operator 0x23 Flex refl
operator-spelled HFlex1 h = escaped_operator 0x24 HFlex1 refl
operator-spelled Flex1 h = escaped_operator 0x25 Flex1 refl
operator-spelled op h = absurd h

pub endchar-spelled : IsPhrase (0x0e ∷ []) [] EndChar
endchar-spelled = operator 0x0e EndChar (omega arith) refl

-- numbers before an operator
pub phrase-spelled : (nums : List ℤ) (code : List ℕ) (op : Operator) → AreHeld nums → IsPhrase code [] op →
    IsPhrase (numbers_text nums ++ code) nums op
phrase-spelled [] code op held is = is
phrase-spelled (num ∷ nums) code op held is =
    subst (λ bytes. IsPhrase bytes (num ∷ nums) op) (sym (append_assoc (number_text num) (numbers_text nums) code))
    (after_number (number_text num) (numbers_text nums ++ code) num nums op (spells num held.0) (phrase-spelled nums code op held.1 is))

pub said-spelled : (nums : List ℤ) (op : Operator) → AreHeld nums → IsAnswered (kind op) →
    IsPhrase (numbers_text nums ++ operator_text op) nums op
said-spelled nums op held is = phrase-spelled nums (operator_text op) op held (operator-spelled op is)

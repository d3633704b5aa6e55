use Rattle.std.proofs.Common.{◌≡◌, ◌↔◌, ◌&&◌, Bool, IsTrue, ℤ, rules, sym, ◌∙◌}
use Rattle.std.specs.Ordering.{int_eq}
use Rattle.std.proofs.lemmas.Bool.Decides.{Decides-and, Decides-int_eq}
use Rattle.postscript_base.specs.Compact1.Decimal.{IsOperand, IsSameValue}
use Rattle.postscript_base.proofs.Decimals.{one_form, IsSameValue-refl}
use Rattle.postscript_base.proofs.compact1.operand.OperandPartialEq.eq.Goals as goal

-- operands have one value exactly where both parts are equal
by_value : (m e n f : ℤ) (r : Bool) → IsOperand m e → IsOperand n f → r ≡ (int_eq m n && int_eq e f) → IsTrue r ↔ IsSameValue m e n f
by_value m e n f r a b is =
    let test = Decides-and _ _ (Decides-int_eq m n) (Decides-int_eq e f) in (
      λ h. let e = test.0 (sym is ∙ h) in rw (e.0, e.1) (IsSameValue-refl n f),
      λ h. is ∙ test.1 (one_form m e n f a.canonical b.canonical h),
    )

pub returns-then-mantissa-clause-equal : goal.returns-then-mantissa-clause-equal
returns-then-mantissa-clause-equal c = by_value _ _ _ _ _ c.mantissa.ensures.operand c.mantissa-2.ensures.operand (search rules)

pub returns-else-mantissa-clause-equal : goal.returns-else-mantissa-clause-equal
returns-else-mantissa-clause-equal c = by_value _ _ _ _ _ c.mantissa.ensures.operand c.mantissa-2.ensures.operand (search rules)

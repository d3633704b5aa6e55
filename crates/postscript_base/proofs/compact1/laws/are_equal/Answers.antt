use Rattle.std.proofs.Common.{sym, ◌∙◌}
use Rattle.std.proofs.lemmas.Bool.Decides.{Decides-and, Decides-int_eq}
use Rattle.postscript_base.proofs.Decimals.{one_form, same_decimal, IsSameValue-refl}
use Rattle.postscript_base.proofs.compact1.laws.are_equal.Goals as goal

pub returns-clause-equal : goal.returns-clause-equal
returns-clause-equal c =
    let a = c.args.a.now in
    let b = c.args.b.now in
    let test = Decides-and _ _ (Decides-int_eq a.mantissa b.mantissa) (Decides-int_eq a.exponent b.exponent) in
    let f = c.mantissa.ensures.operand in
    let g = c.mantissa-2.ensures.operand in (
      λ h. let e = test.0 (sym c.eq.ensures ∙ h) in rw (e.0, e.1) (IsSameValue-refl b.mantissa b.exponent),
      λ h. c.eq.ensures ∙ test.1 (one_form a.mantissa a.exponent b.mantissa b.exponent f.canonical g.canonical h),
    )

pub returns-clause-one_operand : goal.returns-clause-one_operand
returns-clause-one_operand c = λ h.
    let a = c.args.a.now in
    let b = c.args.b.now in
    let f = c.mantissa.ensures.operand in
    let g = c.mantissa-2.ensures.operand in
    let e = one_form a.mantissa a.exponent b.mantissa b.exponent f.canonical g.canonical h in
    same_decimal a b e.0 e.1

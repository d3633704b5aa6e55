use Rattle.std.proofs.Common.{◌-◌, take, drop, get_or, arith, length}
use Rattle.std.proofs.lemmas.Bool.Decides.{nat_tests}
use Rattle.postscript_base.proofs.Texts.{all_digits, front_is, exponent_found}
use Rattle.postscript_base.proofs.compact1.text.split_exponent.Goals as goal

pub returns-clause-some : goal.returns-clause-some
returns-clause-some c =
    let text = c.args.text.now in
    let found = exponent_found text (get_or text 0 0)
    (take (length text - 1) (drop 1 text)) c.split_sign-down.result.0 c.split_sign-down.result.1.now
    (front_is text c.in-len1-up.len_at_least) c.if-mark-ne-E.false
    c.split_sign-down.ensures.sign c.split_sign-down.ensures.rest
    (let e = c.is_empty.ensures in let f = c.if-is_empty.false in grind (arith, nat_tests))
    (rw (← c.leading_digits.ensures) c.if-leading_digits-exponent.false) in
    (found.exponent, found.found, found.down_is, found.digits_is)

pub returns-clause-digits : goal.returns-clause-digits
returns-clause-digits c = all_digits c.split_sign-down.result.1.now (rw (← c.leading_digits.ensures) c.if-leading_digits-exponent.false)

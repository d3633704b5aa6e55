use Rattle.std.proofs.Common.{arith}
use Rattle.std.proofs.lemmas.Int.{ints, to_z-of_z}
use Rattle.postscript_base.proofs.Decimals.{stripped_same, stripped_canonical, some_same, none_same}
use Rattle.postscript_base.proofs.Operands.{finds_operand, zero_operand}
use Rattle.postscript_base.proofs.compact1.operand.Operand.new.Goals as goal

pub returns-clause-some : goal.returns-clause-some
returns-clause-some c =
    some_same c.of_digits.result _ _ c.args.mantissa c.args.exponent c.of_digits.ensures.some c.of_digits.ensures.operand
    (stripped_same c.args.mantissa c.args.exponent _ c.unsigned_abs.result c.stripped-digits.result.0 c.stripped-digits.result.1 _
    (grind (arith, to_z-of_z)) (grind (arith, to_z-of_z)) c.stripped-digits.ensures.whole (grind (arith, ints, to_z-of_z)))

pub returns-clause-none : goal.returns-clause-none
returns-clause-none c = none_same c.of_digits.result _ _ c.args.mantissa c.args.exponent c.of_digits.ensures.none
    (stripped_canonical c.args.mantissa _ c.unsigned_abs.result c.stripped-digits.result.0 c.stripped-digits.result.1 _
    c.stripped-digits.ensures.whole c.stripped-digits.ensures.no_last_zero)
    (stripped_same c.args.mantissa c.args.exponent _ c.unsigned_abs.result c.stripped-digits.result.0 c.stripped-digits.result.1 _
    (grind (arith, to_z-of_z)) (grind (arith, to_z-of_z)) c.stripped-digits.ensures.whole (grind (arith, ints, to_z-of_z)))

pub returns-clause-exact : goal.returns-clause-exact
returns-clause-exact c = finds_operand c.of_digits.result c.args.mantissa c.args.exponent (returns-clause-some c) (returns-clause-none c)

pub returns-then-mantissa-eq0-clause-exact : goal.returns-then-mantissa-eq0-clause-exact
returns-then-mantissa-eq0-clause-exact c =
    let z = c.zero.ensures.value in zero_operand c.zero.result c.args.mantissa c.args.exponent z.0 z.1 (grind (arith, ints, to_z-of_z))

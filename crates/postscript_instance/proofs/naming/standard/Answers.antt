use Rattle.std.proofs.Common.{◌≡◌, Some, below_more, arith}
use Rattle.postscript_compact1.specs.StandardStrings.{standard_string}
use Rattle.postscript_instance.proofs.naming.standard.Goals as goal

pub loop-number-preserved : goal.loop-number-preserved
loop-number-preserved c =
    below_more (λ n. standard_string n ≡ Some c.args.name.now → ⊥) c.loop-number.number c.loop-number.invariant
    (λ same. let never = c.if-is_standard.ensures.1 same in absurd (cc))

pub returns-clause-none : goal.returns-clause-none
returns-clause-none c = λ number h. c.loop-number.invariant number (let past = c.loop-number-test.false in omega (arith, h, past))

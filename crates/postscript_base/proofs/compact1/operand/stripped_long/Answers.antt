use Rattle.std.proofs.Common.{arith}
use Rattle.postscript_base.proofs.Decimals.{tens_few, ten_more}
use Rattle.postscript_base.proofs.compact1.operand.stripped_long.Goals as goal

pub overflow_add-zeros : goal.overflow_add-zeros
overflow_add-zeros c = grind (arith, tens_few)

pub loop-rest-preserved : goal.loop-rest-preserved
loop-rest-preserved c = grind (arith, ten_more)

pub returns-clause-few : goal.returns-clause-few
returns-clause-few c =
    tens_few c.args.number c.loop-rest.rest c.loop-rest.zeros c.loop-rest.invariant.whole c.loop-rest.invariant.positive (omega arith)

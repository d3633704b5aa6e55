use Rattle.std.proofs.Common.{arith}
use Rattle.postscript_base.proofs.Decimals.{tens_few, ten_more}
use Rattle.postscript_base.proofs.compact1.operand.stripped_short.Goals as goal

pub overflow_add-zeros : goal.overflow_add-zeros
overflow_add-zeros c = grind (arith, tens_few)

pub loop-short-preserved : goal.loop-short-preserved
loop-short-preserved c = grind (arith, ten_more)

pub returns-clause-few : goal.returns-clause-few
returns-clause-few c =
    tens_few c.args.number c.loop-short.short c.loop-short.zeros c.loop-short.invariant.whole c.loop-short.invariant.positive (omega arith)

use Rattle.postscript_type2.proofs.Written.{none-more, so_far, before-first, one-more}
use Rattle.std.proofs.Common.{arith}
use Rattle.postscript_type2.proofs.program.inlined.last_number.Goals as goal

pub loop-next-init : goal.loop-next-init
loop-next-init c = record { found = before-first c.args.numbers.now; within = tt }

pub loop-next-preserved : goal.loop-next-preserved
loop-next-preserved c = grind (arith, one-more, so_far)

pub returns : goal.returns
returns c = grind (arith, none-more)

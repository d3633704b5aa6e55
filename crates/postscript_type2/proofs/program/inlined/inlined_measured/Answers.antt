use Rattle.std.proofs.Common.{[], arith}
use Rattle.std.proofs.lemmas.Grind.{common_steps}
use Rattle.postscript_type2.proofs.program.inlined.inlined_measured.Goals as goal

pub returns-in-UsedUp-clause-len : goal.returns-in-UsedUp-clause-len
returns-in-UsedUp-clause-len c = grind (arith, common_steps)

pub returns-in-EndChar-clause-len : goal.returns-in-EndChar-clause-len
returns-in-EndChar-clause-len c = let last = c.count.ensures.counts [] in grind (arith, common_steps)

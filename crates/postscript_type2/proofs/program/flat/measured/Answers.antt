use Rattle.std.proofs.Common.{arith, rules}
use Rattle.std.proofs.lemmas.Grind.{common_steps}
use Rattle.postscript_type2.proofs.program.flat.measured.Goals as goal

pub returns-in-UsedUp-clause-faultless : goal.returns-in-UsedUp-clause-faultless
returns-in-UsedUp-clause-faultless c = search rules

pub returns-in-UsedUp-clause-len : goal.returns-in-UsedUp-clause-len
returns-in-UsedUp-clause-len c = grind (arith, common_steps)

pub loop-said-init : goal.loop-said-init
loop-said-init c = search rules

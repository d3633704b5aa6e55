use Rattle.std.proofs.Common.{rules}
use Rattle.postscript_compact1.specs.FontSet.Operands.{bounds}
use Rattle.postscript_compact1.proofs.font_set.operands.bounds.Goals as goal

pub returns-in_default-clause-exact : goal.returns-in_default-clause-exact
unfolding bounds
returns-in_default-clause-exact c = search rules steps 1000000

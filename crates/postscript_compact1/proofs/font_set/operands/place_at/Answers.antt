use Rattle.std.proofs.Common.{rules}
use Rattle.postscript_compact1.specs.FontSet.Operands.{place_at}
use Rattle.postscript_compact1.proofs.font_set.operands.place_at.Goals as goal

pub returns-clause-exact : goal.returns-clause-exact
unfolding place_at
returns-clause-exact c = search rules steps 1000000

use Rattle.std.proofs.Common.{rules}
use Rattle.postscript_compact1.specs.FontSet.Operands.{first}
use Rattle.postscript_compact1.proofs.font_set.operands.first.Goals as goal

pub returns-in_err-operand-clause-exact : goal.returns-in_err-operand-clause-exact
unfolding first
returns-in_err-operand-clause-exact c = search rules steps 1000000

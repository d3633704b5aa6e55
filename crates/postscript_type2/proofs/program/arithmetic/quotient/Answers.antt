use Rattle.std.proofs.Common.{rules}
use Rattle.postscript_type2.proofs.program.arithmetic.quotient.Goals as goal

pub returns : goal.returns
returns c = search rules

use Rattle.std.proofs.Common.{rules}
use Rattle.postscript_type2.proofs.program.arithmetic.both.Goals as goal

pub returns : goal.returns
returns c = search rules

use Rattle.std.proofs.Common.{rules}
use Rattle.postscript_type2.proofs.program.all_answers.Goals as goal

pub returns : goal.returns
returns c = search rules

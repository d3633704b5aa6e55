use Rattle.std.proofs.Common.{rules}
use Rattle.postscript_type2.proofs.program.state.State.put.Goals as goal

pub returns-clause-value : goal.returns-clause-value
returns-clause-value c = search rules

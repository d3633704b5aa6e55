use Rattle.std.proofs.Common.{rules}
use Rattle.postscript_type2.proofs.program.state.State.act.Goals as goal

pub returns-in-CallSubr-clause-value : goal.returns-in-CallSubr-clause-value
returns-in-CallSubr-clause-value c = search rules

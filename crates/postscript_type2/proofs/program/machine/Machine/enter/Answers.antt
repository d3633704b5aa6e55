use Rattle.std.proofs.Common.{rules}
use Rattle.postscript_type2.proofs.program.machine.Machine.enter.Goals as goal

pub returns-clause-state : goal.returns-clause-state
returns-clause-state c = search rules steps 1000000

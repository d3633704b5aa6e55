use Rattle.std.proofs.Common.{rules}
use Rattle.postscript_type2.proofs.program.machine.Machine.stop.Goals as goal

pub returns-clause-stops : goal.returns-clause-stops
returns-clause-stops c = search rules steps 1000000

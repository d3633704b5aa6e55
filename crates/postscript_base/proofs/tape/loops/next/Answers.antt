use Rattle.std.proofs.Common.{arith}
use Rattle.postscript_base.proofs.tape.loops.next.Goals as goal

pub returns-in-Err-UnexpectedEof-clause-exact : goal.returns-in-Err-UnexpectedEof-clause-exact
returns-in-Err-UnexpectedEof-clause-exact g c = grind arith

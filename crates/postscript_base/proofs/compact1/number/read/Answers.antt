use Rattle.std.proofs.Common.{arith}
use Rattle.postscript_base.proofs.Nibbles.{byte_front}
use Rattle.postscript_base.proofs.compact1.number.read.Goals as goal

pub returns-clause-no_memory : goal.returns-clause-no_memory
returns-clause-no_memory g c = grind (arith, byte_front)

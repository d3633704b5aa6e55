use Rattle.std.proofs.Common.{arith}
use Rattle.std.proofs.lemmas.Int.{ints, to_z-of_z}
use Rattle.postscript_base.proofs.number.below.Goals as goal

pub returns : goal.returns
returns c = grind (arith, ints, to_z-of_z)

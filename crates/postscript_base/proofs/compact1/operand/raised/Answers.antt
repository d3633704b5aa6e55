use Rattle.std.proofs.Common.{arith}
use Rattle.std.proofs.Math.Facts.{to_z-of_z as read_back}
use Rattle.std.proofs.lemmas.Int.{ints, to_z-of_z, fits_signed_mul}
use Rattle.postscript_base.proofs.compact1.operand.raised.Goals as goal

pub overflow_mul-result : goal.overflow_mul-result
overflow_mul-result c = grind (arith, ints, to_z-of_z, fits_signed_mul)

pub returns : goal.returns
returns c = grind (arith, ints, to_z-of_z, read_back, overflow_mul-result)

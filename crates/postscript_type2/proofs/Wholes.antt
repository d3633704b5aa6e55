-- The whole number of the bits of a whole number.
use Rattle.std.proofs.Common.{◌≡◌, ℤ, Some, arith}
use Rattle.postscript_type2.specs.Number.{whole, to_int}

pub to_int-whole : (number : ℤ) → to_int (whole number) ≡ Some number
to_int-whole number = grind arith

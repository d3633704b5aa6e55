-- Known widths in 65536ths.
use Rattle.std.proofs.Common.{refl, ℤ, pos, negsuc, arith}
use Rattle.std.specs.Prelude.{Some}
use Rattle.postscript_base.specs.Compact1.Decimal.{Decimal}
use Rattle.postscript_c.specs.Widths.{IsWidth}

abbrev decimal : ℤ → ℤ → Decimal
decimal mantissa exponent = record { mantissa = mantissa; exponent = exponent }

-- 500
five_hundred : IsWidth (Some (decimal (pos 5) (pos 2))) (pos 32768000)
five_hundred = (
  pos 32768000,
  record { magnitude = 32768000; are_in = record { at_least = omega arith; less_than = omega arith }; has_sign = refl },
  refl,
)

-- 333.3333333333 is 333 * 65536 + 21845.33
many_digits : IsWidth (Some (decimal (pos 3333333333333) (negsuc 9))) (pos 21845333)
many_digits = (
  pos 21845333,
  record {
    magnitude = 21845333;
    are_in = record { at_least = omega arith; less_than = omega arith };
    has_sign = refl;
  },
  refl,
)

-- -0.5
half_below : IsWidth (Some (decimal (negsuc 4) (negsuc 0))) (negsuc 32767)
half_below = (
  negsuc 32767,
  record {
    magnitude = 32768;
    are_in = record { at_least = omega arith; less_than = omega arith };
    has_sign = refl;
  },
  refl,
)

-- -12.34567 is cut towards zero, from 809085.8
below_zero : IsWidth (Some (decimal (negsuc 1234566) (negsuc 4))) (negsuc 809084)
below_zero = (
  negsuc 809084,
  record {
    magnitude = 809085;
    are_in = record { at_least = omega arith; less_than = omega arith };
    has_sign = refl;
  },
  refl,
)

-- 40000.25 is 40000 * 65536 + 16384
above_32767 : IsWidth (Some (decimal (pos 4000025) (negsuc 1))) (pos 2621456384)
above_32767 = (
  pos 2621456384,
  record { magnitude = 2621456384; are_in = record { at_least = omega arith; less_than = omega arith }; has_sign = refl },
  refl,
)

-- 1e-10
too_fine : IsWidth (Some (decimal (pos 1) (negsuc 9))) (pos 0)
too_fine = (pos 0, record { magnitude = 0; are_in = record { at_least = omega arith; less_than = omega arith }; has_sign = refl }, refl)

-- 123456789.012345678 has eighteen digits
eighteen_digits : IsWidth (Some (decimal (pos 123456789012345678) (negsuc 8))) (pos 8090864124713)
eighteen_digits = (
  pos 8090864124713,
  record { magnitude = 8090864124713; are_in = record { at_least = omega arith; less_than = omega arith }; has_sign = refl },
  refl,
)

-- 1e15 is beyond 64 bits
beyond : IsWidth (Some (decimal (pos 1) (pos 15))) (pos 9223372036854775807)
beyond = (
  pos 65536000000000000000,
  record { magnitude = 65536000000000000000; are_in = record { at_least = omega arith; less_than = omega arith }; has_sign = refl },
  refl,
)

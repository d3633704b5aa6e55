-- Numbers of charstrings, and the 16.16 numbers that they represent (Technical Note 5177, "Charstring Number Encoding").
use Rattle.std.specs.Ordering.{int_eq}
use Rattle.std.specs.Prelude.{ℕ, ℤ, pos, ◌*ℤ◌, int_div, int_rem, Option, Some, None, ◌==◌, nat_lt, if◌then◌else◌}
use Rattle.postscript_base.specs.Numbers.{number as unsigned, two_sided, small, above, below}
use Rattle.postscript_base.specs.Tape.Outcome.{Reading, ◌>>=◌, pure, fault}
use Rattle.postscript_base.specs.Refusal.{malformed_number}

-- the bits of a whole number
abbrev pub whole : ℤ → ℤ
whole n = n *ℤ pos 65536

-- the whole number with these bits, if 65536 divides them
abbrev pub to_int : ℤ → Option ℤ
to_int bits = if int_eq (int_rem bits (pos 65536)) (pos 0) then Some (int_div bits (pos 65536)) else None

-- the rest of a number after its first byte
abbrev pub spelled : ℕ → Reading ℤ
spelled first =
    if first == 0x1c then (unsigned 2 >>= λ n. pure (whole (two_sided 0x8000 n)))
    else if nat_lt first 0x20 then fault malformed_number
    else if nat_lt first 0xf7 then pure (whole (small first))
    else if nat_lt first 0xfb then (unsigned 1 >>= λ second. pure (whole (above first second)))
    else if nat_lt first 0xff then (unsigned 1 >>= λ second. pure (whole (below first second)))
    else (unsigned 4 >>= λ bits. pure (two_sided 0x80000000 bits))

unfoldable pub number : Reading ℤ
number = unsigned 1 >>= spelled

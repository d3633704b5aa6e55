-- Numbers in dictionaries: integers and reals (Technical Note 5176, "DICT Data", Table 3).
use Rattle.std.specs.Prelude.{◌≢◌, ℕ, ℤ, pos, [], ◌∷◌, take, drop, ◌==◌, nat_lt, if◌then◌else◌}
use Rattle.postscript_base.specs.Refusal.{malformed_number}
use Rattle.postscript_base.specs.Tape.Outcome.{Reading, ◌>>=◌, pure, fault}
use Rattle.postscript_base.specs.Numbers.{number as unsigned, two_sided, small, above, below}
use Rattle.postscript_base.specs.Compact1.Decimal.{Decimal, canonical}
use Rattle.postscript_base.specs.Compact1.Nibbles.{real}
use Rattle.postscript_base.specs.Tape.{TapeState, IsHonest}

-- the operand of an integer
abbrev pub whole : ℤ → Decimal
whole n = canonical n (pos 0)

-- the rest of a number after its first byte
abbrev pub begun : ℕ → Reading Decimal
begun first =
    if first == 0x1c then (unsigned 2 >>= λ n. pure (whole (two_sided 0x8000 n)))
    else if first == 0x1d then (unsigned 4 >>= λ n. pure (whole (two_sided 0x80000000 n)))
    else if first == 0x1e then real
    else if nat_lt first 0x20 then fault malformed_number
    else if nat_lt first 0xf7 then pure (whole (small first))
    else if nat_lt first 0xfb then (unsigned 1 >>= λ second. pure (whole (above first second)))
    else if nat_lt first 0xff then (unsigned 1 >>= λ second. pure (whole (below first second)))
    else fault malformed_number

unfoldable pub number : Reading Decimal
number = unsigned 1 >>= begun

-- the tape is honest, and its next byte does not begin a real
abbrev pub BeginsNoReal : TapeState → Type 0
BeginsNoReal tape = IsHonest tape × (take 1 (drop tape.place tape.bytes) ≢ 0x1e ∷ [])

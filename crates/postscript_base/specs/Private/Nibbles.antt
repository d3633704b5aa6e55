-- How the text of a real grows with each nibble.
use Rattle.std.specs.Prelude.{ℕ, ◌/◌, ◌%◌, Bool, true, false, List, ◌++◌, Option, Some, None, ◌==◌, if◌then◌else◌}
use Rattle.postscript_base.specs.Numbers.{number}
use Rattle.postscript_base.specs.Refusal.{malformed_number}
use Rattle.postscript_base.specs.Tape.Outcome.{Reading, ◌>>=◌, pure, fault}
use Rattle.postscript_base.specs.Compact1.Nibbles.{symbols, end_nibble, reserved_nibble}

-- a text with one more nibble, and whether the text has ended
abbrev pub one_nibble : List ℕ → ℕ → Option (Bool × List ℕ)
one_nibble text nibble = if nibble == end_nibble then Some (true, text) else if nibble == reserved_nibble then None
    else Some (false, text ++ symbols nibble)

-- the high nibble, and then the low one
abbrev pub then_low : Option (Bool × List ℕ) → ℕ → Option (Bool × List ℕ)
then_low None low = None
then_low (Some r) low = if r.0 then Some (true, r.1) else one_nibble r.1 low

abbrev pub one_byte : List ℕ → ℕ → Option (Bool × List ℕ)
one_byte text byte = then_low (one_nibble text (byte / 16)) (byte % 16)

abbrev pub step_of : Option (Bool × List ℕ) → Reading (Bool × List ℕ)
step_of None = fault malformed_number
step_of (Some step) = pure step

-- one byte of a text
unfoldable pub step : List ℕ → Reading (Bool × List ℕ)
step text = number 1 >>= λ byte. step_of (one_byte text byte)

-- How the text of a real is encoded in bytes, and how it is read (Technical Note 5176, "DICT Data", Table 5).
use Rattle.std.specs.Prelude.{ℕ, ◌+◌, ◌/◌, ◌%◌, Bool, not, ◌||◌, List, [], ◌∷◌, take, drop, flat_map, Option, Some, None, ◌==◌, if◌then◌else◌}
use Rattle.std.specs.List.{prefix_len}
use Rattle.postscript_base.specs.Refusal.{malformed_number, out_of_range_number}
use Rattle.postscript_base.specs.Tape.Outcome.{Outcome, Got, Fault, Reading, end, ◌>>=◌, pure, fault}
use Rattle.postscript_base.specs.Compact1.Decimal.{Decimal, operand_of}
use Rattle.postscript_base.specs.Compact1.Reals.{e_symbol, minus_symbol, Real, value_of, real_of}

-- the nibbles of bytes, the high one of each byte first
abbrev pub nibbles : List ℕ → List ℕ
nibbles bytes = flat_map (λ byte. byte / 16 ∷ byte % 16 ∷ []) bytes

-- Three nibbles are not symbols: one spells both E and minus, one ends the text, and one is reserved.
abbrev pub e_minus_nibble : ℕ
e_minus_nibble = 12

abbrev pub reserved_nibble : ℕ
reserved_nibble = 13

abbrev pub end_nibble : ℕ
end_nibble = 15

-- a text continues up to its end nibble or to the reserved one
abbrev pub is_in_text : ℕ → Bool
is_in_text nibble = not (nibble == reserved_nibble || nibble == end_nibble)

-- the symbols that a nibble spells: E and minus, or only itself
abbrev pub symbols : ℕ → List ℕ
symbols nibble = if nibble == e_minus_nibble then e_symbol ∷ minus_symbol ∷ [] else nibble ∷ []

-- a text and the offset after it, if the first nibble after the text ends it; otherwise an error
abbrev pub ended_by : List ℕ → List ℕ → ℕ → Outcome (List ℕ)
ended_by [] text next = end
ended_by (nibble ∷ _) text next = if nibble == end_nibble then Got text next else Fault malformed_number

-- the text of a real, and the offset after the byte in which it ends
unfoldable pub text_of_real : Reading (List ℕ)
text_of_real bytes place =
    let all = nibbles (drop place bytes) in
    let count = prefix_len is_in_text all in
    ended_by (drop count all) (flat_map symbols (take count all)) (place + (count / 2 + 1))

-- the operand of a real, or an error if the text spells no real or its value has no operand
abbrev pub operand_if : Option Decimal → Reading Decimal
operand_if (Some operand) = pure operand
operand_if None = fault out_of_range_number

abbrev pub valued : Option Real → Reading Decimal
valued None = fault malformed_number
valued (Some r) = operand_if (operand_of (value_of r).mantissa (value_of r).exponent)

unfoldable pub real : Reading Decimal
real = text_of_real >>= λ text. valued (real_of text)

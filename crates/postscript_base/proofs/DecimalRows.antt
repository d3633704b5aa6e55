-- Operands of values, and numbers, offsets and headers read from bytes, computed from the definitions.
use Rattle.std.proofs.Common.{◌≡◌, refl, sym, ap, ℕ, ◌+◌, ◌^◌, arith, map, List, [], ◌∷◌, Option, Some, None, true, ℤ, pos, neg_ℤ}
use Rattle.postscript_base.specs.Refusal.{unexpected_eof, malformed_offset, malformed_number, out_of_range_number}
use Rattle.postscript_base.specs.Tape.Outcome.{Outcome, Got, Fault}
use Rattle.postscript_base.specs.Numbers.{slice, number as unsigned}
use Rattle.postscript_base.specs.Compact1.Decimal.{Decimal, IsCanonical, IsOperand, canonical, operand_of, to_i32, without_zeros}
use Rattle.postscript_base.specs.Compact1.Reals.{Real, real_of, spelling, value_of}
use Rattle.postscript_base.specs.Compact1.Nibbles.{real, text_of_real}
use Rattle.postscript_base.specs.Compact1.Number.{number}
use Rattle.postscript_base.specs.Compact1.Header.{header}
use Rattle.postscript_base.specs.Compact1.Offset.{offset}
use Rattle.std.specs.Int.RustNames.{unsigned_abs}
use Rattle.std.proofs.lemmas.Int.{ints}
use Rattle.postscript_base.proofs.Decimals.{one_form}
use Rattle.postscript_base.proofs.Operands.{finds_operand}

abbrev at : ℤ → ℤ → Decimal
at m e = record { mantissa = m; exponent = e }

abbrev operands : List (ℤ × ℤ × Option Decimal)
operands =
    (pos 1000, neg_ℤ (pos 3), Some (at (pos 1) (pos 0))) ∷
    -- zero, whatever its exponent
    (pos 0, pos 5000, Some (at (pos 0) (pos 0))) ∷
    -- the greatest exponent and the least one, and past them
    (pos 10, pos 999, Some (at (pos 1) (pos 1000))) ∷
    (pos 10, pos 1000, None) ∷
    (pos 10, neg_ℤ (pos 1001), Some (at (pos 1) (neg_ℤ (pos 1000)))) ∷
    (pos 1, neg_ℤ (pos 1001), None) ∷
    []

operands_hold : map (λ row. operand_of row.0 row.1) operands ≡ map (λ row. row.2) operands
unfolding operand_of canonical without_zeros
operands_hold = refl

pub quintillion : operand_of (pos (10 ^ 18)) (pos 0) ≡ Some (at (pos 1) (pos 18))
quintillion =
    let canonical : IsCanonical (pos 1) (pos 18) = record { zero_alone = λ no. absurd cc; no_last_zero = λ no. absurd (omega arith) } in
    let operand : IsOperand (pos 1)
    (pos 18) = record { canonical = canonical; few_digits = omega arith; low = omega (arith, ints); high = omega (arith, ints) } in
    sym (finds_operand (Some (at (pos 1) (pos 18))) (pos (10 ^ 18)) (pos 0) (operand, refl) tt)

pub past_quintillion : operand_of (pos (10 ^ 18 + 1)) (pos 0) ≡ None
past_quintillion =
    let canonical : IsCanonical (pos (10 ^ 18 + 1))
    (pos 0) = record { zero_alone = λ no. refl; no_last_zero = λ no. absurd (omega arith) } in
    sym (finds_operand None (pos (10 ^ 18 + 1)) (pos 0) tt (λ n f operand same.
    let is = one_form n f (pos (10 ^ 18 + 1)) (pos 0) operand.canonical canonical same in
    let few = operand.few_digits in
    let many = ap unsigned_abs is.0 in
    absurd (omega arith)))

abbrev whole_numbers : List (Decimal × Option ℤ)
whole_numbers =
    (at (pos 1) (pos 9), Some (pos 1000000000)) ∷
    (at (pos 1) (pos 10), None) ∷
    (at (pos 225) (neg_ℤ (pos 2)), None) ∷
    (at (neg_ℤ (pos (2 ^ 31))) (pos 0), Some (neg_ℤ (pos (2 ^ 31)))) ∷
    []

whole_numbers_hold : map (λ row. to_i32 row.0) whole_numbers ≡ map (λ row. row.1) whole_numbers
unfolding to_i32
whole_numbers_hold = refl

abbrev numbers : List (List ℕ × Outcome Decimal)
numbers =
    (0xef ∷ [], Got (at (pos 1) (pos 2)) 1) ∷
    (0x1c ∷ 0xd8 ∷ 0xf0 ∷ [], Got (at (neg_ℤ (pos 1)) (pos 4)) 3) ∷
    -- -2.25, and -2.25e-3
    (0x1e ∷ 0xe2 ∷ 0xa2 ∷ 0x5f ∷ [], Got (at (neg_ℤ (pos 225)) (neg_ℤ (pos 2))) 4) ∷
    (0x1e ∷ 0xe2 ∷ 0xa2 ∷ 0x5c ∷ 0x3f ∷ [], Got (at (neg_ℤ (pos 225)) (neg_ℤ (pos 5))) 5) ∷
    -- no digits, a reserved nibble, no end, and a real out of range
    (0x1e ∷ 0xff ∷ [], Fault malformed_number) ∷
    (0x1e ∷ 0xd0 ∷ [], Fault malformed_number) ∷
    (0x1e ∷ 0x12 ∷ [], Fault unexpected_eof) ∷
    (0x1e ∷ 0x1b ∷ 0x10 ∷ 0x01 ∷ 0xff ∷ [], Fault out_of_range_number) ∷
    []

numbers_hold : map (λ row. number row.0 0) numbers ≡ map (λ row. row.1) numbers
unfolding number unsigned slice real text_of_real real_of operand_of canonical without_zeros
numbers_hold = refl

-- -2.25e-3, as it is written
abbrev written : Real
written = record { negative = true; whole = 2 ∷ []; fraction = Some (2 ∷ 5 ∷ []); exponent = Some (true, 3 ∷ []) }

spelled : spelling written ≡ 14 ∷ 2 ∷ 10 ∷ 2 ∷ 5 ∷ 11 ∷ 14 ∷ 3 ∷ []
spelled = refl

worth : value_of written ≡ at (neg_ℤ (pos 225)) (neg_ℤ (pos 5))
worth = refl

offsets : map (λ (row : ℕ × List ℕ). offset row.0 row.1 0)
    ((3, 4 ∷ 5 ∷ 6 ∷ []) ∷ (0, 4 ∷ []) ∷ (5, []) ∷ []) ≡ Got 0x040506 3 ∷ Fault malformed_offset ∷ Fault malformed_offset ∷ []
unfolding offset unsigned slice
offsets = refl

headers : map (λ (bytes : List ℕ). header bytes 0)
    ((1 ∷ 0 ∷ 4 ∷ 2 ∷ []) ∷ (1 ∷ 0 ∷ 4 ∷ []) ∷ []) ≡ Got
    (record { major = 1; minor = 0; header_size = 4; offset_size = 2 }) 4 ∷ Fault unexpected_eof ∷ []
unfolding header unsigned slice
headers = refl

-- Decimal numbers: their values, their canonical form, and the operands of dictionaries (Technical Note 5176, "DICT Data").
use Rattle.std.specs.Prelude.{◌≡◌, ◌↔◌, Bool, true, false, ◌&&◌, ℕ, zero, suc, ◌-◌, ◌/◌, ◌^◌, ◌%◌, ◌<◌, ◌==◌, nat_lt, ℤ, pos, negsuc, ◌+ℤ◌, ◌-ℤ◌, ◌*ℤ◌, ◌≤ℤ◌, neg_ℤ, int_lt, int_le, List, ◌++◌, Option, Some, None, codes, if◌then◌else◌, fold, length, slice_index, ◌*◌, ◌+◌}
use Rattle.std.specs.Fmt.{signed_decimal}
use Rattle.std.specs.Int.{int_min}
use Rattle.std.specs.Int.RustNames.{unsigned_abs}
use Rattle.std.specs.Ordering.{int_eq}

-- mantissa * 10 ^ exponent
pub record Decimal : Type 0 where
  pub mantissa : ℤ
  pub exponent : ℤ

-- m * 10 ^ n
abbrev pub scaled : ℤ → ℕ → ℤ
scaled m n = m *ℤ pos (10 ^ n)

-- m * 10 ^ e and m' * 10 ^ e' are equal
abbrev pub IsSameValue : ℤ → ℤ → ℤ → ℤ → Type 0
IsSameValue m e m' e' =
    let k = int_min e e' in
    scaled m (unsigned_abs (e -ℤ k)) ≡ scaled m' (unsigned_abs (e' -ℤ k))

-- Each value has one canonical pair: 0 is (0, 0), and any other mantissa does not end in 0.
pub record IsCanonical (m e : ℤ) : Type 0 where
  pub zero_alone : m ≡ pos 0 → e ≡ pos 0
  pub no_last_zero : unsigned_abs m % 10 ≡ 0 → m ≡ pos 0

pub record IsOperand (m e : ℤ) : Type 0 where
  pub canonical : IsCanonical m e
  pub few_digits : unsigned_abs m < 10 ^ 18
  pub low : negsuc 999 ≤ℤ e
  pub high : e ≤ℤ pos 1000

-- the values are equal
abbrev pub AreEqual : Decimal → Decimal → Type 0
AreEqual a b = IsSameValue a.mantissa a.exponent b.mantissa b.exponent

abbrev pub HasOperand : Decimal → Type 0
HasOperand d = IsOperand d.mantissa d.exponent

-- a number with a sign
abbrev pub signed : Bool → ℕ → ℤ
signed true n = neg_ℤ (pos n)
signed false n = pos n

abbrev pub one_zero_more : ℕ × ℕ → ℕ × ℕ
one_zero_more found = (found.0, suc found.1)

-- a number greater than 0 without the zeros at its end, and the number of these zeros; at most `digits` zeros are removed
unfoldable pub without_zeros : ℕ → ℕ → ℕ × ℕ
without_zeros zero n = (n, 0)
without_zeros (suc digits) n = if n % 10 == 0 then one_zero_more (without_zeros digits (n / 10)) else (n, 0)

-- the canonical pair of a value
unfoldable pub canonical : ℤ → ℤ → Decimal
canonical m e =
    let found = without_zeros (unsigned_abs m) (unsigned_abs m) in
    if unsigned_abs m == 0 then record { mantissa = pos 0; exponent = pos 0 }
    else record { mantissa = signed (int_lt m (pos 0)) found.0; exponent = e +ℤ pos found.1 }

abbrev pub is_in_range : Decimal → Bool
is_in_range d = nat_lt (unsigned_abs d.mantissa) (10 ^ 18) && (int_le (negsuc 999) d.exponent && int_le d.exponent (pos 1000))

-- the operand with a value, or `None` if there is none
unfoldable pub operand_of : ℤ → ℤ → Option Decimal
operand_of m e = if is_in_range (canonical m e) then Some (canonical m e) else None

-- an operand that has this value
pub record IsOperandOf (operand value : Decimal) : Type 0 where
  pub in_form : HasOperand operand
  pub equal : AreEqual operand value

-- A law: `operand_of` returns an operand exactly if that operand has the value. So a value has at most one operand.
pub record FindsOperands : Type 0 where
  pub found : (value operand : Decimal) → (operand_of value.mantissa value.exponent ≡ Some operand) ↔ IsOperandOf operand value

-- an integer of 32 bits with a sign
pub record IsOf32Bits (v : ℤ) : Type 0 where
  pub low : negsuc (2 ^ 31 - 1) ≤ℤ v
  pub high : v ≤ℤ pos (2 ^ 31 - 1)

-- the value as an integer of 32 bits, if the exponent is not negative and the value is in this range
unfoldable pub to_i32 : Decimal → Option ℤ
to_i32 d =
    let value = scaled d.mantissa (unsigned_abs d.exponent) in
    if int_le (pos 0) d.exponent && (int_le (negsuc (2 ^ 31 - 1)) value && int_le value (pos (2 ^ 31 - 1))) then Some value else None

-- the mantissa if the exponent is 0, otherwise mantissa, e, exponent
abbrev pub printed : Decimal → List ℕ
printed d = if int_eq d.exponent (pos 0) then signed_decimal d.mantissa
    else signed_decimal d.mantissa ++ (codes "e" ++ signed_decimal d.exponent)

-- the number that digits spell
abbrev pub digits_number : List ℕ → ℕ
digits_number digits = fold (λ n d. 10 * n + d) 0 digits

abbrev pub IsDigits : List ℕ → Type 0
IsDigits digits = (k : ℕ) → k < length digits → slice_index digits k < 10

-- The value of digits before and after a point, with a sign, times ten to an exponent with a sign. All digits form the mantissa, and those
-- after the point lower the exponent.
abbrev pub real_value : (negative : Bool) → (whole fraction : List ℕ) → (down : Bool) → (exponent : List ℕ) → Decimal
real_value negative whole fraction down exponent =
    record {
      mantissa = signed negative (digits_number (whole ++ fraction));
      exponent =
          signed down (digits_number exponent) -ℤ pos (length fraction);
    }

-- The significant digits of a number whose digits are read one by one.
use Rattle.std.specs.Prelude.{◌≡◌, ◌≢◌, ◌⊎◌, ℕ, ◌*◌, ◌^◌, ◌%◌, ◌<◌, ◌≤◌, Bool, true, false}

-- Without the zeros at its end, n has more than eighteen digits.
pub record IsLong (n : ℕ) : Type 0 where
  pub front : ℕ
  pub zeros : ℕ
  pub whole : n ≡ front * 10 ^ zeros
  pub long : 10 ^ 18 ≤ front
  pub no_last_zero : front % 10 ≢ 0

-- n is the mantissa and the zeros after it. The mantissa has at most eighteen digits and does not end in 0. If n is 0, both are 0.
pub record IsShort (mantissa ends n : ℕ) : Type 0 where
  pub whole : n ≡ mantissa * 10 ^ ends
  pub short : mantissa < 10 ^ 18
  pub one_form : (mantissa % 10 ≢ 0) ⊎ ((mantissa ≡ 0) × (ends ≡ 0))

-- Whether n has too many digits. If not, these are its mantissa and the number of zeros after it.
abbrev pub Keeps : Bool → ℕ → ℕ → ℕ → Type 0
Keeps true mantissa ends n = IsLong n
Keeps false mantissa ends n = IsShort mantissa ends n

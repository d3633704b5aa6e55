-- Widths that are cut to 65536ths.
use Rattle.std.proofs.Common.{◌≡◌, refl, sym, ap, subst, ◌∙◌, ℕ, zero, suc, ◌+◌, ◌*◌, ◌/◌, ◌-◌, ◌^◌, ◌<◌, ◌≤◌, inl, inr, min, ℤ, pos, negsuc, arith}
use Rattle.std.specs.Prelude.{Bool, true, false, int_lt, Option, Some, None}
use Rattle.std.specs.Int.{saturate_signed, w64}
use Rattle.std.specs.Int.RustNames.{unsigned_abs}
use Rattle.std.proofs.Math.Nat.{one-le-pow, div-mul-le_self, div-le_self, div-eq_of_lt, min-eq_left, min-eq_right, le-mul_of_pos_right}
use Rattle.std.proofs.lemmas.Bool.{cases_lt}
use Rattle.std.proofs.lemmas.Bool.Decides.{nat_tests}
use Rattle.postscript_base.specs.Compact1.Decimal.{Decimal, signed}
use Rattle.postscript_base.specs.Compact1.Defaults.{decimal}
use Rattle.postscript_c.specs.Widths.{AreIn, IsWidth}

tens : (k : ℕ) → 0 < 10 ^ k
tens k = one-le-pow k 10 (omega arith)

within : (a t : ℕ) → 0 < t → a < (a / t + 1) * t
within a t some = grind arith

-- what is divided by a power that is cut above it is as by the power
quotient : (a t M : ℕ) → 0 < t → a < M → a / min t M ≡ a / t
quotient a t M some small = elim (cases_lt t M) [
  | inl less ↦ ap (λ d. a / d) (min-eq_left (omega (arith, less)))
  | inr more ↦ ap (λ d. a / d) (min-eq_right more) ∙ div-eq_of_lt small ∙ sym (div-eq_of_lt (omega (arith, small, more)))
]

-- a product with a power that is cut, and is cut there too, is as with the power
product : (a t M : ℕ) → min (a * min t M) M ≡ min (a * t) M
product zero t M = let same : 0 * min t M ≡ 0 * t = omega arith in ap (λ a. min a M) same
product (suc a) t M = elim (cases_lt t M) [
  | inl less ↦ ap (λ d. min (suc a * d) M) (min-eq_left (omega (arith, less)))
  | inr more ↦
      let low : M ≤ M * suc a = le-mul_of_pos_right M (omega arith) in
      let high : t ≤ t * suc a = le-mul_of_pos_right t (omega arith) in
      let left : M ≤ suc a * M = omega (arith, low) in
      let right : M ≤ suc a * t = omega (arith, more, high) in
      ap (λ d. min (suc a * d) M) (min-eq_right more) ∙ min-eq_right left ∙ sym (min-eq_right right)
]

pub power_some : (k power : ℕ) → power ≡ min (10 ^ k) (2 ^ 128 - 1) → 0 < power
power_some k power is = elim (cases_lt (10 ^ k) (2 ^ 128 - 1)) [
  | inl less ↦ let same = min-eq_left {n = 10 ^ k} {m = 2 ^ 128 - 1} (omega (arith, less)) in omega (arith, is, same, tens k)
  | inr more ↦ let same = min-eq_right {n = 2 ^ 128 - 1} {m = 10 ^ k} more in omega (arith, is, same)
]

pub below : (m : ℕ) (e : ℤ) (power : ℕ) → m < 2 ^ 64 → int_lt e (pos 0) ≡ true → power ≡ min (10 ^ unsigned_abs e) (2 ^ 128 - 1) →
    (bits : ℕ) × AreIn m e bits × (m * 65536 / power ≡ min bits (2 ^ 128 - 1))
below m (pos n) power small negative is = absurd (grind (arith, nat_tests, negative))
below m (negsuc n) power small negative is =
    let a = m * 65536 in
    let t = 10 ^ suc n in
    let less : a < 2 ^ 128 - 1 = omega (arith, small) in
    let self = div-le_self a t in
    let at_least : a / t * t ≤ a * 1 = omega (arith, div-mul-le_self a t) in
    let less_than : a * 1 < (a / t + 1) * t = omega (arith, within a t (tens (suc n))) in (
      a / t,
      record { at_least = at_least; less_than = less_than },
      ap (λ d. a / d) is ∙ quotient a t (2 ^ 128 - 1) (tens (suc n)) less ∙ sym (min-eq_left (omega (arith, self, less))),
    )

pub above : (m : ℕ) (e : ℤ) (power : ℕ) → int_lt e (pos 0) ≡ false → power ≡ min (10 ^ unsigned_abs e) (2 ^ 128 - 1) →
    (bits : ℕ) × AreIn m e bits × (min (m * 65536 * power) (2 ^ 128 - 1) ≡ min bits (2 ^ 128 - 1))
above m (negsuc n) power from is = absurd (cc)
above m (pos n) power from is =
    let a = m * 65536 in (
      a * 10 ^ n,
      record { at_least = omega arith; less_than = omega arith },
      ap (λ d. min (a * d) (2 ^ 128 - 1)) is ∙ product a (10 ^ n) (2 ^ 128 - 1),
    )

-- far above 64 bits it does not matter where a number is cut before it is cut to these
beyond : (negative : Bool) (n : ℕ) → 2 ^ 128 - 1 ≤ n →
    saturate_signed w64 (signed negative (2 ^ 128 - 1)) ≡ saturate_signed w64 (signed negative n)
beyond true zero more = absurd (omega (arith, more))
beyond true (suc n) more = ap negsuc (sym (min-eq_right (omega (arith, more))))
beyond false n more = ap pos (sym (min-eq_right (omega (arith, more))))

capped : (negative : Bool) (n : ℕ) → saturate_signed w64 (signed negative (min n (2 ^ 128 - 1))) ≡ saturate_signed w64 (signed negative n)
capped negative n = elim (cases_lt n (2 ^ 128 - 1)) [
  | inl less ↦ ap (λ n. saturate_signed w64 (signed negative n)) (min-eq_left (omega (arith, less)))
  | inr more ↦ ap (λ n. saturate_signed w64 (signed negative n)) (min-eq_right more) ∙ beyond negative n more
]

pub cut : (width : Option Decimal) (w : Decimal) (m e : ℤ) (n told : ℕ) (bits : ℤ) → width ≡ Some w → m ≡ w.mantissa → e ≡ w.exponent →
    n ≡ unsigned_abs m
    → (x : ℕ) × AreIn n e x × (told ≡ min x (2 ^ 128 - 1)) → bits ≡ saturate_signed w64
    (signed (int_lt m (pos 0)) told) → IsWidth width bits
cut width w m e n told bits is m-is e-is n-is found told-is =
    let negative = int_lt w.mantissa (pos 0) in
    let in-it = subst (λ (n : ℕ). AreIn n w.exponent found.0) (n-is ∙ ap unsigned_abs m-is)
    (subst (λ (e : ℤ). AreIn n e found.0) e-is found.1) in
    let bits-are : bits ≡ saturate_signed w64 (signed negative told) = told-is
    ∙ ap (λ (m : ℤ). saturate_signed w64 (signed (int_lt m (pos 0)) told)) m-is in
    let all : IsWidth (Some w) bits = (
      signed negative found.0,
      record { magnitude = found.0; are_in = in-it; has_sign = refl },
      bits-are ∙ ap (λ n. saturate_signed w64 (signed negative n)) found.2 ∙ capped negative found.0,
    ) in
    subst (λ (width : Option Decimal). IsWidth width bits) (sym is) all

-- each width has so many 65536ths
bits-in : (m : ℕ) (e : ℤ) → (bits : ℕ) × AreIn m e bits
bits-in m (pos n) = (m * 65536 * 10 ^ n, record { at_least = omega arith; less_than = omega arith })
bits-in m (negsuc n) =
    let a = m * 65536 in
    let t = 10 ^ suc n in
    let at_least : a / t * t ≤ a * 1 = omega (arith, div-mul-le_self a t) in
    let less_than : a * 1 < (a / t + 1) * t = omega (arith, within a t (tens (suc n))) in
    (a / t, record { at_least = at_least; less_than = less_than })

pub every-width : (width : Option Decimal) → (bits : ℤ) × IsWidth width bits
every-width None = (pos 0, refl)
every-width (Some w) =
    let found = bits-in (unsigned_abs w.mantissa) w.exponent in
    let cut = signed (int_lt w.mantissa (pos 0)) found.0 in
    (saturate_signed w64 cut, (cut, record { magnitude = found.0; are_in = found.1; has_sign = refl }, refl))

pub zero-width : IsWidth (Some (decimal (pos 0) (pos 0))) (pos 0)
zero-width = (pos 0, record { magnitude = 0; are_in = record { at_least = omega arith; less_than = omega arith }; has_sign = refl }, refl)

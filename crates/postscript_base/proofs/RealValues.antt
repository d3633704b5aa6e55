-- The operand of a real's digits.
use Rattle.std.proofs.Common.{◌≡◌, ◌≢◌, ◌⊎◌, ℕ, ◌+◌, ◌*◌, ◌%◌, ◌^◌, ◌<◌, ◌≤◌, min, Bool, refl, sym, ap, ◌∙◌, ⊎_elim, arith, inl, inr, ℤ, pos, ◌+ℤ◌, ◌-ℤ◌, Option, Some, None}
use Rattle.std.specs.Prelude.{IfSome, IfNone}
use Rattle.std.specs.Int.RustNames.{unsigned_abs}
use Rattle.std.proofs.lemmas.Bool.{cases_lt}
use Rattle.std.proofs.lemmas.Int.{ints}
use Rattle.postscript_base.specs.Compact1.Decimal.{Decimal, AreEqual, HasOperand, IsOperand, IsSameValue, operand_of, signed}
use Rattle.postscript_base.specs.Private.Significant.{IsLong, IsShort}
use Rattle.postscript_base.proofs.Operands.{finds_operand}
use Rattle.postscript_base.proofs.Decimals.{one_form, meets-IsSameValue, IsSameValue-sym, IsSameValue-trans, stripped_canonical, abs-signed, scaled-signed}

-- what stays of a limited number
pub limited : (far size : ℕ) → min far (2 ^ 70) ≡ min size (2 ^ 70) → (far ≡ size) ⊎ ((2 ^ 70 ≤ far) × (2 ^ 70 ≤ size))
limited far size e = elim (cases_lt far (2 ^ 70)) [ inl lt ↦ inl (omega arith) | inr le ↦ inr (le, omega arith) ]

-- digits that do not end in 0, at their exponent
pub front_same : (b : Bool) (n front zeros : ℕ) (e x : ℤ) → n ≡ front * 10 ^ zeros → x ≡ e +ℤ pos zeros →
    IsSameValue (signed b front) x (signed b n) e
front_same b n front zeros e x whole place = grind (arith, meets-IsSameValue, ints, scaled-signed)

pub only_front : (b : Bool) (n front zeros : ℕ) (e : ℤ) (d : Decimal) → n ≡ front * 10 ^ zeros → front % 10 ≢ 0 → HasOperand d →
    IsSameValue d.mantissa d.exponent (signed b n) e → (d.mantissa ≡ signed b front) × (d.exponent ≡ e +ℤ pos zeros)
only_front b n front zeros e d whole last operand same =
    one_form d.mantissa d.exponent (signed b front) (e +ℤ pos zeros) operand.canonical
    (stripped_canonical (pos 0) b n front zeros _ whole last)
    (IsSameValue-trans d.mantissa d.exponent (signed b n) e _ _ same
    (IsSameValue-sym (signed b front) (e +ℤ pos zeros) (signed b n) e (front_same b n front zeros e _ whole refl)))

pub long_none : (b : Bool) (n : ℕ) (e : ℤ) (d : Decimal) → IsLong n → HasOperand d → IsSameValue d.mantissa d.exponent (signed b n) e → ⊥
long_none b n e d h operand same =
    let one = only_front b n h.front h.zeros e d h.whole h.no_last_zero operand same in
    let size = sym (abs-signed b h.front) ∙ ap unsigned_abs (sym one.0) in
    let few = operand.few_digits in
    let long = h.long in
    omega arith

pub zero_same : (b : Bool) (n : ℕ) (e : ℤ) (o : Decimal) → n ≡ 0 → o.mantissa ≡ pos 0 → IsSameValue o.mantissa o.exponent (signed b n) e
zero_same b n e o h m = grind arith

-- the exponent that the code computes, and the one that is meant
pub record Reaches (down : Bool) (zeros places power far : ℕ) (x : ℤ) : Type 0 where
  pub few : zeros < 2 ^ 64
  pub few_places : places < 2 ^ 64
  pub near : min far (2 ^ 70) ≡ min power (2 ^ 70)
  pub computed : x ≡ (pos zeros -ℤ pos places) +ℤ signed down far

exact : (down : Bool) (zeros places power far : ℕ) (x : ℤ) → Reaches down zeros places power far x → far ≡ power →
    x ≡ (signed down power -ℤ pos places) +ℤ pos zeros
exact down zeros places power far x h e = h.computed ∙ rw e (omega (arith, ints))

pub real_some : (r : Option Decimal) (b down : Bool) (n front zeros places power far : ℕ) (x : ℤ) →
    IfSome r (λ o. (o.mantissa ≡ signed b front) × (o.exponent ≡ x)) → IfSome r HasOperand → n ≡ front * 10 ^ zeros →
    Reaches down zeros places power far x →
    IfSome r (λ o. IsSameValue o.mantissa o.exponent (signed b n) (signed down power -ℤ pos places))
real_some None b down n front zeros places power far x p operand whole h = tt
real_some (Some o) b down n front zeros places power far x p operand whole h = ⊎_elim
    (λ (e : far ≡ power). rw p.0 (front_same b n front zeros _ o.exponent whole (p.1 ∙ exact down zeros places power far x h e)))
    (λ (e : (2 ^ 70 ≤ far) × (2 ^ 70 ≤ power)). absurd (grind (arith, ints)))
    (limited far power h.near)

pub real_none : (r : Option Decimal) (b down : Bool) (n front zeros places power far : ℕ) (x : ℤ) →
    IfNone r (IsOperand (signed b front) x → ⊥) → n ≡ front * 10 ^ zeros → front % 10 ≢ 0 → Reaches down zeros places power far x →
    IfNone r ((d : Decimal) → HasOperand d → IsSameValue d.mantissa d.exponent (signed b n) (signed down power -ℤ pos places) → ⊥)
real_none (Some o) b down n front zeros places power far x p whole last h = tt
real_none None b down n front zeros places power far x p whole last h = λ d operand same.
    let one = only_front b n front zeros (signed down power -ℤ pos places) d whole last operand same in
    ⊎_elim
    (λ (e : far ≡ power). p (rw (exact down zeros places power far x h e, ← one.0, ← one.1) operand))
    (λ (e : (2 ^ 70 ≤ far) × (2 ^ 70 ≤ power)). (grind (arith, ints)))
    (limited far power h.near)

-- one digit more of a limited number
pub limited_more : (far size far' size' d : ℕ) → min far (2 ^ 70) ≡ min size (2 ^ 70) → size' ≡ 10 * size + d →
    ((far < 2 ^ 70) × (far' ≡ 10 * far + d)) ⊎ ((2 ^ 70 ≤ far) × (far' ≡ far)) → min far' (2 ^ 70) ≡ min size' (2 ^ 70)
limited_more far size far' size' d e s h =
    ⊎_elim (λ (a : (far < 2 ^ 70) × (far' ≡ 10 * far + d)). let a0 = a.0 in let a1 = a.1 in omega arith)
    (λ (b : (2 ^ 70 ≤ far) × (far' ≡ far)). let b0 = b.0 in let b1 = b.1 in omega arith) h

pub nothing : (m z n : ℕ) → m ≡ 0 → IsShort m z n → n ≡ 0
nothing m z n e h = h.whole ∙ ap (λ k. k * 10 ^ z) e ∙ omega arith

pub not_last : (m z n : ℕ) → m ≢ 0 → IsShort m z n → m % 10 ≢ 0
not_last m z n p h = ⊎_elim (λ (a : m % 10 ≢ 0). a) (λ (b : (m ≡ 0) × (z ≡ 0)). absurd (p b.0)) h.one_form

pub real_exact : (r : Option Decimal) (v : Decimal) → IfSome r HasOperand → IfSome r (λ o. AreEqual o v) →
    IfNone r ((d : Decimal) → HasOperand d → AreEqual d v → ⊥) → r ≡ operand_of v.mantissa v.exponent
real_exact (Some o) v p q n = finds_operand (Some o) v.mantissa v.exponent (p, q) tt
real_exact None v p q n =
    finds_operand None v.mantissa v.exponent tt (λ m e operand same. n (record { mantissa = m; exponent = e }) operand same)

pub signed_zero : (b : Bool) (n : ℕ) → n ≡ 0 → signed b n ≡ pos 0
signed_zero b n e = grind arith

-- Decimals of one value.
use Rattle.std.proofs.lemmas.Grind.{common_steps}
use Rattle.std.proofs.lemmas.Bool.Decides.{nat_tests}
use Rattle.std.proofs.Common.{◌≡◌, ℕ, suc, ◌+◌, ◌-◌, ◌*◌, ◌/◌, ◌%◌, ◌^◌, ◌<◌, ◌≤◌, Bool, refl, sym, ap, ◌∙◌, ◌≢◌, Option, Some, None, arith, inl, inr, ℤ, pos, ◌+ℤ◌, ◌-ℤ◌, ◌*ℤ◌, neg_ℤ}
use Rattle.std.specs.Prelude.{IfSome, IfNone}
use Rattle.std.specs.Int.{int_min}
use lib.Signed.{lt_z}
use Rattle.std.specs.Int.RustNames.{unsigned_abs}
use Rattle.std.proofs.Math.Nat.{pow-suc, one-le-pow, pow-le-pow_right, mul_assoc, mul_comm, mul-pos, mul-le-mul_right, mul-div_cancel, mul-mod_left}
use Rattle.std.proofs.lemmas.Nat.{pow-add}
use Rattle.std.proofs.lemmas.Bool.{cases_lt, cases_order}
use Rattle.std.proofs.lemmas.Int.{ints, clamps}
use Rattle.postscript_base.specs.Compact1.Decimal.{Decimal, HasOperand, scaled, IsSameValue, IsCanonical, IsOperand, signed}

pub tens_pos : (n : ℕ) → 0 < 10 ^ n
tens_pos n = omega (arith, one-le-pow n 10 (omega arith))

pub tens_few : (n r k : ℕ) → n ≡ r * 10 ^ k → 0 < r → n < 2 ^ 128 → k < 39
tens_few n r k e p lt =
    elim (cases_lt k 39) [
      | inl h ↦ h
      | inr h ↦
          let a : 10 ^ 39 ≤ 10 ^ k = pow-le-pow_right (omega arith) h in
          let b : 1 * 10 ^ k ≤ r * 10 ^ k = mul-le-mul_right (10 ^ k) p in
          absurd (omega arith)
    ]

neg_times : (n b : ℕ) → neg_ℤ (pos n) *ℤ pos b ≡ neg_ℤ (pos (n * b))
neg_times n b = grind arith

cancel : (a b k : ℕ) → 0 < k → a * k ≡ b * k → a ≡ b
cancel a b k p e = sym (mul-div_cancel a p) ∙ ap (λ n. n / k) e ∙ mul-div_cancel b p

opposite : (a b : ℕ) → pos a ≡ neg_ℤ (pos b) → (a ≡ 0) × (b ≡ 0)
opposite a b e = (omega (arith, ints), omega (arith, ints))

neg_is : (a b : ℕ) → neg_ℤ (pos a) ≡ neg_ℤ (pos b) → a ≡ b
neg_is a b e = omega (arith, ints)

pos_is : (a b : ℕ) → pos a ≡ pos b → a ≡ b
pos_is a b e = cc

pub scaled-scaled : (m : ℤ) (a b : ℕ) → scaled (scaled m a) b ≡ scaled m (a + b)
scaled-scaled m a b = grind (arith, mul_assoc, neg_times, pow-add)

pub scaled_cancel : (m n : ℤ) (k : ℕ) → scaled m k ≡ scaled n k → m ≡ n
scaled_cancel m n k e = grind (arith, cancel, pos_is, mul-pos, opposite, neg_is, tens_pos)

-- the same number at one lower exponent
pub record Meets (m e m' e' : ℤ) (i j : ℕ) : Type 0 where
  pub place : e +ℤ pos j ≡ e' +ℤ pos i
  pub value : scaled m i ≡ scaled m' j

pub IsSameValue-meets : (m e m' e' : ℤ) → IsSameValue m e m' e' → Meets m e m' e' (unsigned_abs (e -ℤ int_min e e'))
    (unsigned_abs (e' -ℤ int_min e e'))
IsSameValue-meets m e m' e' h = record { place = omega (arith, ints, clamps); value = h }

above : (m e m' e' : ℤ) (i j t : ℕ) → Meets m e m' e' (i + t) (j + t) → Meets m e m' e' i j
above m e m' e' i j t h =
    record {
      place = let p = h.place in omega (arith, ints);
      value = scaled_cancel (scaled m i) (scaled m' j) t (scaled-scaled m i t ∙ h.value ∙ sym (scaled-scaled m' j t));
    }

pub meets-IsSameValue : (m e m' e' : ℤ) (i j : ℕ) → Meets m e m' e' i j → IsSameValue m e m' e'
meets-IsSameValue m e m' e' i j h =
    let a = unsigned_abs (e -ℤ int_min e e') in
    let b = unsigned_abs (e' -ℤ int_min e e') in
    let place = h.place in
    let i_is : i ≡ a + (i - a) = omega (arith, ints, clamps) in
    let j_is : j ≡ b + (i - a) = omega (arith, ints, clamps) in
    let shifted : Meets m e m' e' (a + (i - a)) (b + (i - a)) = rw (← i_is, ← j_is) h in
    (above m e m' e' a b (i - a) shifted).value

pub IsSameValue-sym : (m e m' e' : ℤ) → IsSameValue m e m' e' → IsSameValue m' e' m e
IsSameValue-sym m e m' e' h = grind (arith, nat_tests)

pub IsSameValue-trans : (m e m' e' n f : ℤ) → IsSameValue m e m' e' → IsSameValue m' e' n f → IsSameValue m e n f
IsSameValue-trans m e m' e' n f g h =
    let p = IsSameValue-meets m e m' e' g in
    let q = IsSameValue-meets m' e' n f h in
    let i = unsigned_abs (e -ℤ int_min e e') in
    let j = unsigned_abs (e' -ℤ int_min e e') in
    let i' = unsigned_abs (e' -ℤ int_min e' f) in
    let j' = unsigned_abs (f -ℤ int_min e' f) in
    meets-IsSameValue m e n f (i + i') (j' + j) (record {
      place = let a = p.place in let b = q.place in omega (arith, ints);
      value = sym (scaled-scaled m i i') ∙ ap (λ x. scaled x i') p.value ∙ scaled-scaled m' j i' ∙ ap (scaled m') (omega arith)
          ∙ sym (scaled-scaled m' i' j) ∙ ap (λ x. scaled x j) q.value ∙ scaled-scaled n j' j;
    })

pub zero_abs : (m : ℤ) → unsigned_abs m ≡ 0 → m ≡ pos 0
zero_abs m e = grind arith

pub abs-scaled : (m : ℤ) (k : ℕ) → unsigned_abs (scaled m k) ≡ unsigned_abs m * 10 ^ k
abs-scaled m k = grind arith

pub last_zero : (n k : ℕ) → (n * 10 ^ suc k) % 10 ≡ 0
last_zero n k = rw (pow-suc 10 k, ← mul_assoc n (10 ^ k) 10) (mul-mod_left (n * 10 ^ k) 10)

-- a canonical pair that is another one at a lower exponent is 0
both_zero : (m e m' e' : ℤ) (i k : ℕ) → IsCanonical m e → IsCanonical m' e' → m ≡ scaled m' (suc k) → (m ≡ m') × (e ≡ e')
both_zero m e m' e' i k c d h = grind (arith, nat_tests, common_steps, abs-scaled, last_zero, zero_abs, cancel, tens_pos)

-- a value has one canonical pair
pub one_form : (m e m' e' : ℤ) → IsCanonical m e → IsCanonical m' e' → IsSameValue m e m' e' → (m ≡ m') × (e ≡ e')
one_form m e m' e' c d h = go (unsigned_abs (e -ℤ int_min e e')) (unsigned_abs (e' -ℤ int_min e e')) (IsSameValue-meets m e m' e' h)
  where
    go : (i j : ℕ) → Meets m e m' e' i j → (m ≡ m') × (e ≡ e')
    go i j p = elim (cases_order i j) [
      | inl eq ↦
          let v : scaled m i ≡ scaled m' i = p.value ∙ ap (scaled m') (sym eq) in
          let place = p.place in
          (scaled_cancel m m' i v, omega (arith, ints))
      | inr (inl lt) ↦
          let v : scaled m i ≡ scaled (scaled m' (suc (j - i - 1))) i = p.value ∙ ap (scaled m') (omega arith)
          ∙ sym (scaled-scaled m' (suc (j - i - 1)) i) in
          both_zero m e m' e' i (j - i - 1) c d (scaled_cancel m _ i v)
      | inr (inr lt) ↦
          let v : scaled m' j ≡ scaled (scaled m (suc (i - j - 1))) j = sym p.value ∙ ap (scaled m) (omega arith)
          ∙ sym (scaled-scaled m (suc (i - j - 1)) j) in
          let r = both_zero m' e' m e j (i - j - 1) d c (scaled_cancel m' _ j v) in
          (sym r.0, sym r.1)
    ]

pub ten_more : (r z : ℕ) → r % 10 ≡ 0 → r * 10 ^ z ≡ r / 10 * 10 ^ (z + 1)
ten_more r z h = grind (arith, nat_tests, common_steps, mul_assoc, mul_comm, pow-suc)

-- a number, and the digits that are left of it at a higher exponent
scaled_sign : (m : ℤ) (d z : ℕ) → unsigned_abs m ≡ d * 10 ^ z → scaled (signed (lt_z m (pos 0)) d) z ≡ scaled m 0
scaled_sign m d z e = grind arith

pub stripped_same : (m e : ℤ) (b : Bool) (n d z : ℕ) (x : ℤ) → b ≡ lt_z m (pos 0) → n ≡ unsigned_abs m → n ≡ d * 10 ^ z → x ≡ e +ℤ pos z →
    IsSameValue (signed b d) x m e
stripped_same m e b n d z x sign size whole place =
    rw (sign, place) (meets-IsSameValue _ _ m e z 0 (record { place = omega (arith, ints); value = scaled_sign m d z (sym size ∙ whole) }))

pub stripped_canonical : (m : ℤ) (b : Bool) (n d z : ℕ) (x : ℤ) → n ≡ d * 10 ^ z → d % 10 ≢ 0 → IsCanonical (signed b d) x
stripped_canonical m b n d z x whole last = grind arith

pub some_same : (r : Option Decimal) (s x m e : ℤ) → IfSome r (λ o. (o.mantissa ≡ s) × (o.exponent ≡ x)) → IfSome r HasOperand →
    IsSameValue s x m e → IfSome r (λ o. HasOperand o × IsSameValue o.mantissa o.exponent m e)
some_same r s x m e p operand h = grind arith

pub none_same : (r : Option Decimal) (s x m e : ℤ) → IfNone r (IsOperand s x → ⊥) → IsCanonical s x → IsSameValue s x m e →
    IfNone r ((n f : ℤ) → IsOperand n f → IsSameValue n f m e → ⊥)
none_same None s x m e p c h = λ n f operand same.
    let one = one_form n f s x operand.canonical c (IsSameValue-trans n f m e s x same (IsSameValue-sym s x m e h)) in
    p (rw (← one.0, ← one.1) operand)
none_same (Some o) s x m e p c h = tt

pub IsSameValue-refl : (m e : ℤ) → IsSameValue m e m e
IsSameValue-refl m e = refl

pub same_decimal : (a b : Decimal) → a.mantissa ≡ b.mantissa → a.exponent ≡ b.exponent → a ≡ b
same_decimal a b p q = grind arith

pub abs-signed : (b : Bool) (d : ℕ) → unsigned_abs (signed b d) ≡ d
abs-signed b d = grind arith

pub scaled-signed : (b : Bool) (d k : ℕ) → scaled (signed b d) k ≡ signed b (d * 10 ^ k)
scaled-signed b d k = grind arith

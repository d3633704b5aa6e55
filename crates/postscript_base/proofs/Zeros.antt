-- One digit more.
use Rattle.std.proofs.Common.{◌≡◌, ◌≢◌, Bool, true, false, ℕ, zero, suc, ◌+◌, ◌*◌, ◌%◌, ◌^◌, ◌<◌, ◌≤◌, sym, ap, ◌∙◌, ⊎_elim, arith, inl}
use Rattle.std.proofs.Math.Nat.{pow-suc, pow-le-pow_right, mul_assoc, mul_comm, mul-le-mul}
use Rattle.postscript_base.specs.Private.Significant.{IsLong, IsShort, Keeps}

pub as_long : (b : Bool) (m z n : ℕ) → b ≡ true → Keeps b m z n → IsLong n
as_long b m z n e h = grind arith

pub as_short : (b : Bool) (m z n : ℕ) → b ≡ false → Keeps b m z n → IsShort m z n
as_short b m z n e h = grind arith

ten_times : (m z n : ℕ) → n ≡ m * 10 ^ z → 10 * n ≡ m * 10 ^ (z + 1)
ten_times m z n e =
    ap (λ k. 10 * k) e ∙ mul_comm 10 (m * 10 ^ z) ∙ mul_assoc m (10 ^ z) 10
    ∙ ap (λ k. m * k) (sym (pow-suc 10 z) ∙ ap (λ k. 10 ^ k) (omega arith))

pub long_more : (n d : ℕ) → d < 10 → IsLong n → IsLong (10 * n + d)
long_more n zero lt h =
    record {
      front = h.front;
      zeros = h.zeros + 1;
      whole = let e = ten_times h.front h.zeros n h.whole in omega arith;
      long = h.long;
      no_last_zero = h.no_last_zero;
    }
long_more n (suc d) lt h =
    let a : 1 ≤ 10 ^ h.zeros = pow-le-pow_right (omega arith) {i = 0} {j = h.zeros} (omega arith) in
    let b : h.front * 1 ≤ h.front * 10 ^ h.zeros = mul-le-mul {n₁ = h.front} {m₁ = 1} {n₂ = h.front} {m₂ = 10 ^ h.zeros} (omega arith) a in
    (record {
      front = 10 * n + (suc d);
      zeros = 0;
      whole = omega arith;
      long = (let w = h.whole in let l = h.long in omega arith);
      no_last_zero = λ h. absurd (omega arith);
    })

pub short_zero : (m z n d : ℕ) → m ≢ 0 → d ≡ 0 → IsShort m z n → IsShort m (z + 1) (10 * n + d)
short_zero m z n d p e h = grind (arith, ten_times)

next_is : (m z n d v : ℕ) → v ≡ m * 10 ^ (z + 1) + d → IsShort m z n → v ≡ 10 * n + d
next_is m z n d v e h = let w = ten_times m z n h.whole in omega arith

pub short_more : (m z n d v : ℕ) → d ≢ 0 → d < 10 → v ≡ m * 10 ^ (z + 1) + d → v < 10 ^ 18 → IsShort m z n → IsShort v 0 (10 * n + d)
short_more m z n d v p lt e small h =
    let i = next_is m z n d v e h in record { whole = omega arith; short = small; one_form = inl (λ k. absurd (omega arith)) }

pub short_long : (m z n d v : ℕ) → d ≢ 0 → d < 10 → v ≡ m * 10 ^ (z + 1) + d → 10 ^ 18 ≤ v → IsShort m z n → IsLong (10 * n + d)
short_long m z n d v p lt e big h =
    let i = next_is m z n d v e h in
    record { front = 10 * n + d; zeros = 0; whole = omega arith; long = (omega arith); no_last_zero = λ h. absurd (omega arith) }

pub short_far : (m z n d : ℕ) → d ≢ 0 → d < 10 → 18 ≤ z → IsShort m z n → IsLong (10 * n + d)
short_far m z n d p lt far h =
    let some : 1 ≤ m = ⊎_elim (λ (a : m % 10 ≢ 0). go m a) (λ (b : (m ≡ 0) × (z ≡ 0)). absurd (let e = b.1 in omega arith)) h.one_form in
    let a : 10 ^ 18 ≤ 10 ^ z = pow-le-pow_right (omega arith) far in
    let b : 1 * 10 ^ 18 ≤ m * 10 ^ z = mul-le-mul some a in
    (record {
      front = 10 * n + d;
      zeros = 0;
      whole = omega arith;
      long = (let w = h.whole in omega arith);
      no_last_zero = λ h. absurd (omega arith);
    })
  where
    go : (m : ℕ) → m % 10 ≢ 0 → 1 ≤ m
    go m a = grind arith

-- Halves of a curve, and from where to where they come.
use Rattle.std.proofs.Common.{◌≡◌, ℕ, zero, suc, ◌+◌, ◌*◌, ◌^◌, ◌-◌, ◌≤◌, ◌<◌, min, max, arith, refl, sym, ap, ◌∙◌, subst, ◌⊎◌, inl, inr, ⊎_elim, mul-le-mul_left, mul-le-mul_right, lit<, Bool, true, false, nat_lt}
use Rattle.std.proofs.Math.Nat.{lt_of_mul-lt-mul_right, one-le-pow, pow-suc}
use Rattle.std.proofs.lemmas.Bool.Decides.{nat_tests}
use Rattle.postscript_outline.specs.declared.curve.Curve.{Curve}
use Rattle.postscript_outline.specs.declared.curve.Span.{Span}
use Rattle.postscript_outline.specs.Halves.{IsBent, IsNearLevel, IsCurveWithin, Spans, back, cube, front, height, joined}

height-front : (c : Curve) (m n : ℕ) → height (front c) m n ≡ height c (2 * m + n) n
height-front c m n = omega arith

height-back : (c : Curve) (m n : ℕ) → height (back c) m n ≡ height c m (m + 2 * n)
height-back c m n = omega arith

height-twice : (c : Curve) (m n : ℕ) → height c (2 * m) (2 * n) ≡ 8 * height c m n
height-twice c m n = omega arith

order : (a b : ℕ) → (a < b) ⊎ (b ≤ a)
order a b = by (nat_lt a b) refl
  where
    by : (t : Bool) → nat_lt a b ≡ t → (a < b) ⊎ (b ≤ a)
    by true e = inl (grind (arith, nat_tests))
    by false e = inr (grind (arith, nat_tests))

-- a point of a curve is a mean of its coordinates
mean-above : (c : Curve) (k m n : ℕ) → k ≤ c.from → k ≤ c.first → k ≤ c.second → k ≤ c.to → k * cube (m + n) ≤ height c m n
mean-above c k m n p q r s =
    let a = mul-le-mul_right (m * m * m) p in
    let b = mul-le-mul_right (3 * (m * m * n)) q in
    let d = mul-le-mul_right (3 * (m * n * n)) r in
    let e = mul-le-mul_right (n * n * n) s in
    omega arith

mean-below : (c : Curve) (k m n : ℕ) → c.from ≤ k → c.first ≤ k → c.second ≤ k → c.to ≤ k → height c m n ≤ k * cube (m + n)
mean-below c k m n p q r s =
    let a = mul-le-mul_right (m * m * m) p in
    let b = mul-le-mul_right (3 * (m * m * n)) q in
    let d = mul-le-mul_right (3 * (m * n * n)) r in
    let e = mul-le-mul_right (n * n * n) s in
    omega arith

-- the first end or the last one is less than that
dips-at-end : (c : Curve) (k : ℕ) → min c.from c.to < k → (m : ℕ) × (n : ℕ) × (0 < m + n) × (height c m n < k * cube (m + n))
dips-at-end c k h = ⊎_elim (λ l. (1, 0, lit< tt, omega arith)) (λ l. (0, 1, lit< tt, omega arith)) (order c.from k)

rises-at-end : (c : Curve) (k d : ℕ) → k < max c.from c.to + d →
    (m : ℕ) × (n : ℕ) × (0 < m + n) × (k * cube (m + n) < height c m n + d * cube (m + n))
rises-at-end c k d h = ⊎_elim (λ l. (1, 0, lit< tt, omega arith)) (λ l. (0, 1, lit< tt, omega arith)) (order k (c.from + d))

pub hull-spans : (c : Curve) (s : Span) (unit l h : ℕ) → 0 < unit → IsNearLevel unit c
    → l ≡ min (min (min c.from c.first) c.second) c.to → h ≡ max (max (max c.from c.first) c.second) c.to
    → s.low * unit ≤ l → l < s.low * unit + unit → h ≤ s.high * unit → s.high * unit < h + unit
    → Spans s unit c
hull-spans c s unit l h some near least most low low' high high' = record {
  above = λ m n. mean-above c (s.low * unit) m n (omega arith) (omega arith) (omega arith) (omega arith);
  below = λ m n. mean-below c (s.high * unit) m n (omega arith) (omega arith) (omega arith) (omega arith);
  dips = dips-at-end c ((s.low + 2) * unit) (omega arith);
  rises = rises-at-end c (s.high * unit) (2 * unit) (omega arith);
  least = λ k p q r t. let z : k * unit < (s.low + 1) * unit = omega arith in let y = lt_of_mul-lt-mul_right unit z in omega arith;
  greatest = λ k p q r t. let z : s.high * unit < (k + 1) * unit = omega arith in let y = lt_of_mul-lt-mul_right unit z in omega arith;
}

-- the front is the curve up to its middle
above-front : (c : Curve) (f : Span) (unit : ℕ) → Spans f (8 * unit) (front c) → (n k : ℕ) →
    f.low * unit * cube (n + k + n) ≤ height c (n + k) n
above-front c f unit h n k =
    let a = h.above k (2 * n) in
    let b = height-front c k (2 * n) in
    let d : height c (2 * k + 2 * n) (2 * n) ≡ 8 * height c (n + k) n = omega arith in
    omega arith

below-front : (c : Curve) (f : Span) (unit : ℕ) → Spans f (8 * unit) (front c) → (n k : ℕ) →
    height c (n + k) n ≤ f.high * unit * cube (n + k + n)
below-front c f unit h n k =
    let a = h.below k (2 * n) in
    let b = height-front c k (2 * n) in
    let d : height c (2 * k + 2 * n) (2 * n) ≡ 8 * height c (n + k) n = omega arith in
    omega arith

above-back : (c : Curve) (f : Span) (unit : ℕ) → Spans f (8 * unit) (back c) → (m k : ℕ) →
    f.low * unit * cube (m + (m + k)) ≤ height c m (m + k)
above-back c f unit h m k =
    let a = h.above (2 * m) k in
    let b = height-back c (2 * m) k in
    let d : height c (2 * m) (2 * m + 2 * k) ≡ 8 * height c m (m + k) = omega arith in
    omega arith

below-back : (c : Curve) (f : Span) (unit : ℕ) → Spans f (8 * unit) (back c) → (m k : ℕ) →
    height c m (m + k) ≤ f.high * unit * cube (m + (m + k))
below-back c f unit h m k =
    let a = h.below (2 * m) k in
    let b = height-back c (2 * m) k in
    let d : height c (2 * m) (2 * m + 2 * k) ≡ 8 * height c m (m + k) = omega arith in
    omega arith

-- what is true of the least of two, at a sum
under-least : (a b v k u : ℕ) → a * u * k ≤ v → min a b * u * k ≤ v
under-least a b v k u h = let l : min a b ≤ a = omega arith in let w = mul-le-mul_right (u * k) l in omega arith

under-least' : (a b v k u : ℕ) → b * u * k ≤ v → min a b * u * k ≤ v
under-least' a b v k u h = let l : min a b ≤ b = omega arith in let w = mul-le-mul_right (u * k) l in omega arith

over-greatest : (a b v k u : ℕ) → v ≤ a * u * k → v ≤ max a b * u * k
over-greatest a b v k u h = let l : a ≤ max a b = omega arith in let w = mul-le-mul_right (u * k) l in omega arith

over-greatest' : (a b v k u : ℕ) → v ≤ b * u * k → v ≤ max a b * u * k
over-greatest' a b v k u h = let l : b ≤ max a b = omega arith in let w = mul-le-mul_right (u * k) l in omega arith

-- a place of a half is one of the whole
abbrev Dips : Curve → (low unit : ℕ) → Type 0
Dips c low unit = (m : ℕ) × (n : ℕ) × (0 < m + n) × (height c m n < (low + 2) * unit * cube (m + n))

abbrev Rises : Curve → (high unit : ℕ) → Type 0
Rises c high unit = (m : ℕ) × (n : ℕ) × (0 < m + n) × (high * unit * cube (m + n) < height c m n + 2 * unit * cube (m + n))

dips-front : (c : Curve) (low unit : ℕ) → Dips (front c) low (8 * unit) → Dips c low unit
dips-front c low unit (m, n, some, h) = (2 * m + n, n, omega arith, let e = height-front c m n in omega arith)

dips-back : (c : Curve) (low unit : ℕ) → Dips (back c) low (8 * unit) → Dips c low unit
dips-back c low unit (m, n, some, h) = (m, m + 2 * n, omega arith, let e = height-back c m n in omega arith)

rises-front : (c : Curve) (high unit : ℕ) → Rises (front c) high (8 * unit) → Rises c high unit
rises-front c high unit (m, n, some, h) = (2 * m + n, n, omega arith, let e = height-front c m n in omega arith)

rises-back : (c : Curve) (high unit : ℕ) → Rises (back c) high (8 * unit) → Rises c high unit
rises-back c high unit (m, n, some, h) = (m, m + 2 * n, omega arith, let e = height-back c m n in omega arith)

dips-least : (c : Curve) (a b unit : ℕ) → Dips c a unit → Dips c b unit → Dips c (min a b) unit
dips-least c a b unit p q =
    ⊎_elim (λ l. subst (λ v. Dips c v unit) (let e : a ≡ min a b = omega arith in e) p)
    (λ l. subst (λ v. Dips c v unit) (let e : b ≡ min a b = omega arith in e) q) (order a b)

rises-greatest : (c : Curve) (a b unit : ℕ) → Rises c a unit → Rises c b unit → Rises c (max a b) unit
rises-greatest c a b unit p q =
    ⊎_elim (λ l. subst (λ v. Rises c v unit) (let e : b ≡ max a b = omega arith in e) q)
    (λ l. subst (λ v. Rises c v unit) (let e : a ≡ max a b = omega arith in e) p) (order a b)

-- from where to where both halves come, the whole does
pub joined-spans : (c : Curve) (f b : Span) (unit : ℕ) → Spans f (8 * unit) (front c) → Spans b (8 * unit) (back c) →
    Spans (joined f b) unit c
joined-spans c f b unit p q = record {
  above = λ m n. ⊎_elim (λ l. above_after m n (n - m) (omega arith)) (λ l. above_before m n (m - n) (omega arith)) (order m n);
  below = λ m n. ⊎_elim (λ l. below_after m n (n - m) (omega arith)) (λ l. below_before m n (m - n) (omega arith)) (order m n);
  dips = dips-least c f.low b.low unit (dips-front c f.low unit p.dips) (dips-back c b.low unit q.dips);
  rises = rises-greatest c f.high b.high unit (rises-front c f.high unit p.rises) (rises-back c b.high unit q.rises);
  least = λ k w x y z.
      let l = p.least k (omega arith) (omega arith) (omega arith) (omega arith) in
      let r = q.least k (omega arith) (omega arith) (omega arith) (omega arith) in omega arith;
  greatest = λ k w x y z.
      let l = p.greatest k (omega arith) (omega arith) (omega arith) (omega arith) in
      let r = q.greatest k (omega arith) (omega arith) (omega arith) (omega arith) in omega arith;
}
  where
    above_before : (m n k : ℕ) → m ≡ n + k → (joined f b).low * unit * cube (m + n) ≤ height c m n
    above_before m n k e =
        subst (λ v. (joined f b).low * unit * cube (v + n) ≤ height c v n) (sym e)
        (under-least f.low b.low _ _ unit (above-front c f unit p n k))

    above_after : (m n k : ℕ) → n ≡ m + k → (joined f b).low * unit * cube (m + n) ≤ height c m n
    above_after m n k e =
        subst (λ v. (joined f b).low * unit * cube (m + v) ≤ height c m v) (sym e)
        (under-least' f.low b.low _ _ unit (above-back c b unit q m k))

    below_before : (m n k : ℕ) → m ≡ n + k → height c m n ≤ (joined f b).high * unit * cube (m + n)
    below_before m n k e =
        subst (λ v. height c v n ≤ (joined f b).high * unit * cube (v + n)) (sym e)
        (over-greatest f.high b.high _ _ unit (below-front c f unit p n k))

    below_after : (m n k : ℕ) → n ≡ m + k → height c m n ≤ (joined f b).high * unit * cube (m + n)
    below_after m n k e =
        subst (λ v. height c m v ≤ (joined f b).high * unit * cube (m + v)) (sym e)
        (over-greatest' f.high b.high _ _ unit (below-back c b unit q m k))

-- the parts of a unit, at one halving more
pub more-parts : (unit h : ℕ) → 0 < h → unit * 8 ^ h ≡ 2 ^ 51 → 8 * unit * 8 ^ (h - 1) ≡ 2 ^ 51
more-parts unit h some is =
    let e : h ≡ suc (h - 1) = omega arith in
    let p : unit * (8 ^ (h - 1) * 8) ≡ 2 ^ 51 = subst (λ v. unit * v ≡ 2 ^ 51) (ap (λ v. 8 ^ v) e ∙ pow-suc 8 (h - 1)) is in
    omega arith

pub few-parts : (unit h : ℕ) → unit * 8 ^ h ≡ 2 ^ 51 → unit ≤ 2 ^ 51
few-parts unit h is = let l : 1 ≤ 8 ^ h = one-le-pow h 8 (lit< tt) in let m = mul-le-mul_left unit l in omega arith

pub some-parts : (unit h : ℕ) → unit * 8 ^ h ≡ 2 ^ 51 → 0 < unit
some-parts zero h is = let z : 0 * 8 ^ h ≡ 0 = omega arith in omega arith
some-parts (suc unit) h is = omega arith

pub within-front : (c : Curve) (unit : ℕ) → IsCurveWithin (2 ^ 32 * unit) c → IsCurveWithin (2 ^ 32 * (8 * unit)) (front c)
within-front c unit h = record { from = omega arith; first = omega arith; second = omega arith; to = omega arith }

pub within-back : (c : Curve) (unit : ℕ) → IsCurveWithin (2 ^ 32 * unit) c → IsCurveWithin (2 ^ 32 * (8 * unit)) (back c)
within-back c unit h = record { from = omega arith; first = omega arith; second = omega arith; to = omega arith }

-- each half bends a quarter as much, of eight times as many parts
pub bent-front : (c : Curve) (h most : ℕ) → 0 < h → IsBent (2 ^ h) most c → IsBent (2 ^ (h - 1)) most (front c)
bent-front c h most some is =
    by (2 ^ (h - 1)) (omega (arith, pow-suc 2 (h - 1), ap (λ v. 2 ^ v) (let e : h ≡ suc (h - 1) = omega arith in e)))
  where
    by : (t : ℕ) → 2 ^ h ≡ 2 * t → IsBent t most (front c)
    by t e =
        let b : IsBent (2 * t) most c = subst (λ v. IsBent v most c) e is in
        record { begin_up = omega arith; begin_down = omega arith; end_up = omega arith; end_down = omega arith }

pub bent-back : (c : Curve) (h most : ℕ) → 0 < h → IsBent (2 ^ h) most c → IsBent (2 ^ (h - 1)) most (back c)
bent-back c h most some is =
    by (2 ^ (h - 1)) (omega (arith, pow-suc 2 (h - 1), ap (λ v. 2 ^ v) (let e : h ≡ suc (h - 1) = omega arith in e)))
  where
    by : (t : ℕ) → 2 ^ h ≡ 2 * t → IsBent t most (back c)
    by t e =
        let b : IsBent (2 * t) most c = subst (λ v. IsBent v most c) e is in
        record { begin_up = omega arith; begin_down = omega arith; end_up = omega arith; end_down = omega arith }

pub near-level : (c : Curve) (unit h : ℕ) → h ≡ 0 → unit * 8 ^ h ≡ 2 ^ 51 → IsBent (2 ^ h) (2 ^ 50) c → IsNearLevel unit c
near-level c unit h none is bent =
    let u : unit * 8 ^ 0 ≡ 2 ^ 51 = subst (λ v. unit * 8 ^ v ≡ 2 ^ 51) none is in
    let b : IsBent 1 (2 ^ 50) c = subst (λ v. IsBent (2 ^ v) (2 ^ 50) c) none bent in
    record { first_low = omega arith; first_high = omega arith; second_low = omega arith; second_high = omega arith }

-- How far blended values at a place are from the exact ones.
use Rattle.std.proofs.Common.{◌≡◌, ap, sym, subst, ◌∙◌, ℕ, suc, ◌+◌, ◌*◌, ◌/◌, ◌<◌, ◌≤◌, ℤ, pos, negsuc, neg_ℤ, ◌+ℤ◌, ◌*ℤ◌, List, [], ◌∷◌, length, slice_get, Some, unsigned_abs, arith}
use Rattle.std.proofs.lemmas.Int.{ints}
use Rattle.std.proofs.Math.Nat.{mul-le-mul_right, mul-pos}
use Rattle.postscript_variable.specs.Blending.{scaled, sum_of}
use Rattle.postscript_variable.proofs.BlendLaws.{above-zero, below-zero}
use Rattle.postscript_variation.specs.ScalarLaws.{IsWithinHalves}
use Rattle.postscript_variation.specs.Lent.{scalar_at}
use Rattle.postscript_variation.specs.SumLaws.{IsNear}
use Rattle.postscript_variation.specs.declared.store.Data.{Data}
use Rattle.postscript_variation.proofs.Fractions.{above, below, opposite}
use Rattle.postscript_variation.proofs.NearSums.{exact_scalar, scalar_near}
use Rattle.postscript_variable_font.specs.Nearness.{IsExactSum, none, more, BlendsAreNear, ExactSumsAre}

-- ---- a delta times a scalar that is near

from-size : (size m scalar part whole rounded : ℕ) → 131072 * size ≤ 2 * (m * scalar) + 65536 → 2 * (m * scalar) ≤ 131072 * size + 65536 →
    IsWithinHalves scalar part whole rounded → IsNear (pos size) (pos (m * part)) whole (65536 + m * rounded)
from-size size m scalar part whole rounded high low near =
    let a : 131072 * size * whole ≤ (2 * (m * scalar) + 65536) * whole = mul-le-mul_right whole high in
    let b : 2 * (m * scalar) * whole ≤ (131072 * size + 65536) * whole = mul-le-mul_right whole low in
    let c : 2 * scalar * whole * m ≤ (2 * (65536 * part) + rounded * whole) * m = mul-le-mul_right m near.above in
    let d : 2 * (65536 * part) * m ≤ (2 * scalar * whole + rounded * whole) * m = mul-le-mul_right m near.below in
    record { some = near.some; above = omega (arith, ints, a, c); below = omega (arith, ints, b, d) }

size-near : (m scalar part whole rounded : ℕ) → IsWithinHalves scalar part whole rounded →
    IsNear (pos ((m * scalar + 32768) / 65536)) (pos (m * part)) whole (65536 + m * rounded)
size-near m scalar part whole rounded near =
    from-size ((m * scalar + 32768) / 65536) m scalar part whole rounded (omega arith) (omega arith) near

turned : (a x : ℤ) (w k : ℕ) → IsNear a x w k → IsNear (neg_ℤ a) (neg_ℤ x) w k
turned a x w k near =
    let p = near.above in
    let q = near.below in
    let e = opposite a (131072 * w) in
    let f = opposite x 131072 in
    record { some = near.some; above = omega (arith, ints, q, e, f); below = omega (arith, ints, p, e, f) }

delta-near : (delta : ℤ) (scalar part whole rounded : ℕ) → IsWithinHalves scalar part whole rounded →
    IsNear (scaled delta scalar) (delta *ℤ pos part) whole (65536 + unsigned_abs delta * rounded)
delta-near (pos n) scalar part whole rounded near =
    subst (λ s. IsNear s (pos n *ℤ pos part) whole (65536 + n * rounded)) (sym (above-zero n scalar))
    (size-near n scalar part whole rounded near)
delta-near (negsuc n) scalar part whole rounded near =
    subst (λ s. IsNear s (negsuc n *ℤ pos part) whole (65536 + suc n * rounded)) (sym (below-zero n scalar))
    (turned (pos ((suc n * scalar + 32768) / 65536)) (pos (suc n * part)) whole (65536 + suc n * rounded)
    (size-near (suc n) scalar part whole rounded near))

-- ---- several

both : (a x b y : ℤ) (v w k l : ℕ) → IsNear a x v k → IsNear b y w l → IsNear (a +ℤ b) ((x *ℤ pos w) +ℤ (y *ℤ pos v)) (v * w) (k + l)
both a x b y v w k l one others = record {
  some = mul-pos one.some others.some;
  above = above 131072 131072 a x b y v w k l one.above others.above;
  below = below 131072 131072 a x b y v w k l one.below others.below;
}

pub law : BlendsAreNear
law table coordinates j _ _ _ _ _ (none _) = record { some = omega arith; above = omega (arith, ints); below = omega (arith, ints) }
law table coordinates j _ _ _ _ _ (more _ scalars delta deltas part whole halves p w rounded is others) =
    both (scaled delta (scalar_at table coordinates j)) (delta *ℤ pos p) (sum_of deltas scalars) part w whole
    (65536 + unsigned_abs delta * rounded) halves
    (delta-near delta (scalar_at table coordinates j) p w rounded (scalar_near table coordinates j p w rounded is))
    (law table coordinates (suc j) scalars deltas part whole halves others)

-- ---- there is an exact sum

record HasSumFrom (table : Data) (coordinates : List ℤ) (j : ℕ) (scalars : List ℕ) (deltas : List ℤ) : Type 0 where
  part : ℤ
  whole : ℕ
  halves : ℕ
  is : IsExactSum table coordinates j scalars deltas part whole halves

first-scalar : (a b : ℕ) → Some a ≡ Some b → b ≡ a
first-scalar a b e = sym (cc)

from : (table : Data) (coordinates : List ℤ) (j : ℕ) (scalars : List ℕ) (deltas : List ℤ) →
    ((i : ℕ) → i < length scalars → slice_get scalars i ≡ Some (scalar_at table coordinates (j + i))) → length deltas ≡ length
    scalars → HasSumFrom table coordinates j scalars deltas
from table coordinates j [] [] each same = record { part = pos 0; whole = 1; halves = 0; is = none j }
from table coordinates j [] (delta ∷ deltas) each same = absurd (omega arith)
from table coordinates j (scalar ∷ scalars) [] each same = absurd (omega arith)
from table coordinates j (scalar ∷ scalars) (delta ∷ deltas) each same =
    let one = exact_scalar table coordinates j in
    let others = from table coordinates (suc j) scalars deltas
    (λ i room. each (suc i) (omega (arith, room)) ∙ ap (λ k. Some (scalar_at table coordinates k)) (omega arith)) (omega (arith, same)) in
    let head : scalar_at table coordinates j ≡ scalar =
    ap (scalar_at table coordinates) (omega arith) ∙ first-scalar scalar (scalar_at table coordinates (j + 0)) (each 0 (omega arith)) in
    record {
      part = ((delta *ℤ pos one.part) *ℤ pos others.whole) +ℤ (others.part *ℤ pos one.whole);
      whole = one.whole * others.whole;
      halves = 65536 + unsigned_abs delta * one.rounded + others.halves;
      is =
          subst (λ s. IsExactSum table coordinates j (s ∷ scalars) (delta ∷ deltas)
          (((delta *ℤ pos one.part) *ℤ pos others.whole) +ℤ (others.part *ℤ pos one.whole))
          (one.whole * others.whole) (65536 + unsigned_abs delta * one.rounded + others.halves)) head
          (more j scalars delta deltas others.part others.whole others.halves one.part one.whole one.rounded one.is others.is);
    }

pub exact : ExactSumsAre
exact table coordinates scalars deltas are same =
    let there = from table coordinates 0 scalars deltas
    (λ i room. are.each i (subst (λ n. i < n) are.counted room) ∙ ap (λ k. Some (scalar_at table coordinates k)) (omega arith)) same in
    record { part = there.part; whole = there.whole; halves = there.halves; is = there.is }

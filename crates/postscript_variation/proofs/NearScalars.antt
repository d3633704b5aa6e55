-- How far scalars are from the exact ones.
use Rattle.std.proofs.Common.{◌≡◌, ◌↔◌, ℕ, zero, suc, ◌+◌, ◌*◌, ◌<◌, ◌≤◌, ℤ, List, slice_get, sym, subst, ◌∙◌, arith}
use Rattle.std.proofs.Math.Nat.{mul-le-mul_right}
use Rattle.postscript_variation.specs.Scalars.{IsAxisScalar, IsNearest, nearest, scaled}
use Rattle.postscript_variation.specs.ScalarLaws.{HasProduct, IsProduct, IsScaled, IsWithinHalves, fractions}
use Rattle.postscript_variation.specs.ScalarLaws.IsProduct.{of_none, by_axis}
use Rattle.postscript_variation.specs.Store.{coordinate_at, scalar_by, span_at, told}
use Rattle.postscript_variation.proofs.AxisScalars.{HasAxisScalar, at_most_one, computed, has_one, nearest-is, nearest-only, some}

pub multiplied : (scalar : ℕ) (start peak last at : ℤ) (result : ℕ) →
    (scaled scalar start peak last at ≡ result) ↔ IsScaled scalar start peak last at result
multiplied scalar start peak last at result = (
  (λ e. let one = has_one start peak last at in
      let s = some start peak last at one.part one.whole one.is in
      let c = sym (computed scalar start peak last at one.part one.whole one.is) ∙ e in
      record {
        part =
            one.part;
        whole = one.whole;
        axis = one.is;
        near = subst (IsNearest (scalar * one.part) one.whole) c (nearest-is (scalar * one.part) one.whole s);
      }),
  (λ is. computed scalar start peak last at is.part is.whole is.axis
      ∙ nearest-only (scalar * is.part) is.whole result (some start peak last at is.part is.whole is.axis) is.near),
)

-- ---- one axis more

many : (d : ℕ) → fractions (suc (suc d)) ≡ 1
many d = grind arith

near_above : (n d : ℕ) → 0 < d → 2 * nearest n d * d ≤ 2 * n + fractions d * d
near_above n zero h = absurd (omega arith)
near_above n (suc zero) h = omega arith
near_above n (suc (suc d)) h = rw (many d) (omega (arith, (nearest-is n (suc (suc d)) h).not_above))

near_below : (n d : ℕ) → 0 < d → 2 * n ≤ 2 * nearest n d * d + fractions d * d
near_below n zero h = absurd (omega arith)
near_below n (suc zero) h = omega arith
near_below n (suc (suc d)) h = rw (many d) (omega (arith, (nearest-is n (suc (suc d)) h).not_below))

above : (f s r part whole p w rounded more : ℕ) → p ≤ w → 2 * r * w ≤ 2 * (s * p) + more * w →
    2 * s * whole ≤ 2 * (f * part) + rounded * whole
    → 2 * r * (whole * w) ≤ 2 * (f * (part * p)) + (rounded + more) * (whole * w)
above f s r part whole p w rounded more le near before =
    let a : 2 * r * w * whole ≤ (2 * (s * p) + more * w) * whole = mul-le-mul_right whole near in
    let b : 2 * s * whole * p ≤ (2 * (f * part) + rounded * whole) * p = mul-le-mul_right p before in
    let c : p * (rounded * whole) ≤ w * (rounded * whole) = mul-le-mul_right (rounded * whole) le in
    omega (arith, a, b, c)

below : (f s r part whole p w rounded more : ℕ) → p ≤ w → 2 * (s * p) ≤ 2 * r * w + more * w →
    2 * (f * part) ≤ 2 * s * whole + rounded * whole
    → 2 * (f * (part * p)) ≤ 2 * r * (whole * w) + (rounded + more) * (whole * w)
below f s r part whole p w rounded more le near before =
    let a : 2 * (s * p) * whole ≤ (2 * r * w + more * w) * whole = mul-le-mul_right whole near in
    let b : 2 * (f * part) * p ≤ (2 * s * whole + rounded * whole) * p = mul-le-mul_right p before in
    let c : p * (rounded * whole) ≤ w * (rounded * whole) = mul-le-mul_right (rounded * whole) le in
    omega (arith, a, b, c)

positive : (a b : ℕ) → 0 < a → 0 < b → 0 < a * b
positive a b h k = grind arith

more : (scalar part whole rounded p w : ℕ) (start peak last at : ℤ) → IsAxisScalar start peak last at p w →
    IsWithinHalves scalar part whole rounded
    → IsWithinHalves (scaled scalar start peak last at) (part * p) (whole * w) (rounded + fractions w)
more scalar part whole rounded p w start peak last at axis before =
    let s = some start peak last at p w axis in
    let le = at_most_one start peak last at p w axis in
    let e = computed scalar start peak last at p w axis in
    rw e (record {
      some = positive whole w before.some s;
      above = above 65536 scalar (nearest (scalar * p) w) part whole p w rounded (fractions w) le
          (near_above (scalar * p) w s) before.above;
      below = below 65536 scalar (nearest (scalar * p) w) part whole p w rounded (fractions w) le
          (near_below (scalar * p) w s) before.below;
    })

pub near : (bytes : List ℕ) (place axes region : ℕ) (coordinates : List ℤ) (count part whole rounded : ℕ)
    → IsProduct bytes place axes region coordinates count part whole rounded
    → IsWithinHalves (scalar_by bytes place axes region coordinates count) part whole rounded
near bytes place axes region coordinates zero part whole rounded of_none =
    record { some = omega arith; above = omega arith; below = omega arith }
near bytes place axes region coordinates (suc axis) part whole rounded (by_axis axis' part' whole' rounded' p w before is) =
    more (scalar_by bytes place axes region coordinates axis) part' whole' rounded' p w _ _ _ _ is
    (near bytes place axes region coordinates axis part' whole' rounded' before)

-- ---- there is an exact one

few : (rounded axis whole : ℕ) → rounded ≤ axis → rounded + fractions whole ≤ suc axis
few rounded axis zero h = omega arith
few rounded axis (suc zero) h = omega arith
few rounded axis (suc (suc whole)) h = rw (many whole) (omega arith)

one_more : (bytes : List ℕ) (place axes region : ℕ) (coordinates : List ℤ) (axis : ℕ) → HasProduct bytes place axes region coordinates axis
    → HasAxisScalar (coordinate_at bytes (span_at place axes region axis)) (coordinate_at bytes (span_at place axes region axis + 2))
    (coordinate_at bytes (span_at place axes region axis + 4)) (told (slice_get coordinates axis))
    → HasProduct bytes place axes region coordinates (suc axis)
one_more bytes place axes region coordinates axis before one = record {
  part = before.part * one.part;
  whole = before.whole * one.whole;
  rounded = before.rounded + fractions one.whole;
  is = by_axis axis before.part before.whole before.rounded one.part one.whole before.is one.is;
  most = few before.rounded axis one.whole before.most;
}

pub exact : (bytes : List ℕ) (place axes region : ℕ) (coordinates : List ℤ) (count : ℕ) →
    HasProduct bytes place axes region coordinates count
exact bytes place axes region coordinates zero = record { part = 1; whole = 1; rounded = 0; is = of_none; most = omega arith }
exact bytes place axes region coordinates (suc axis) =
    one_more bytes place axes region coordinates axis (exact bytes place axes region coordinates axis) (has_one _ _ _ _)

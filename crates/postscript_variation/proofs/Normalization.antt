-- The default normalization as it is computed.
use Rattle.std.proofs.Common.{◌≡◌, ◌↔◌, ◌*◌, ◌<◌, ℤ, pos, neg_ℤ, ◌<ℤ◌, ◌≤ℤ◌, refl, ap, sym, subst, ◌∙◌, arith}
use Rattle.std.proofs.lemmas.Int.{ints, by_lt_z}
use Rattle.postscript_variation.specs.Normalized.{AreInOrder, IsClamped, IsNormalized, clamped, normalized, normalized_within, share}
use Rattle.postscript_variation.specs.Normalized.IsClamped.{below, above, within}
use Rattle.postscript_variation.specs.Normalized.IsNormalized.{does_not_vary, at_default, below_default, above_default}
use Rattle.postscript_variation.specs.Scalars.{apart}
use Rattle.postscript_variation.proofs.AxisScalars.{nearest-is, nearest-only}
use Rattle.postscript_variation.proofs.Deciding.{below as is_below, not_below}
use Rattle.postscript_variation.proofs.Normalizing.{clamped-within, in_order, long-above, long-below, long-default, outside, outside_too}

-- ---- the value within the axis

clamped_below : (minimum maximum value : ℤ) → value <ℤ minimum → clamped minimum maximum value ≡ minimum
clamped_below minimum maximum value h = rw (is_below value minimum h) refl

clamped_above : (minimum maximum value : ℤ) → minimum ≤ℤ value → maximum <ℤ value → clamped minimum maximum value ≡ maximum
clamped_above minimum maximum value h k = rw (not_below value minimum h) (rw (is_below maximum value k) refl)

clamped_so : (minimum maximum value at : ℤ) → minimum ≤ℤ maximum → IsClamped minimum maximum value at → clamped minimum maximum value ≡ at
clamped_so minimum maximum value at o (below h e) = clamped_below minimum maximum value h ∙ sym e
clamped_so minimum maximum value at o (above h e) = clamped_above minimum maximum value (omega (arith, ints, o, h)) h ∙ sym e
clamped_so minimum maximum value at o (within h k e) = clamped-within minimum maximum value h k ∙ sym e

is_clamped : (minimum maximum value : ℤ) → minimum ≤ℤ maximum → IsClamped minimum maximum value (clamped minimum maximum value)
is_clamped minimum maximum value o =
    by_lt_z value minimum (λ h. below h (clamped_below minimum maximum value h)) (λ h.
    by_lt_z maximum value (λ k. above k (clamped_above minimum maximum value h k))
    (λ k. within h k (clamped-within minimum maximum value h k)))

-- ---- what is computed

through : (minimum standard maximum value at : ℤ) → AreInOrder minimum standard maximum → IsClamped minimum maximum value at
    → normalized minimum standard maximum value ≡ normalized_within minimum standard maximum at
through minimum standard maximum value at o is =
    in_order minimum standard maximum value o.0 o.1
    ∙ ap (normalized_within minimum standard maximum) (clamped_so minimum maximum value at (omega (arith, ints, o.0, o.1)) is)

out_of_order : (minimum standard maximum value : ℤ) → (AreInOrder minimum standard maximum → ⊥) →
    normalized minimum standard maximum value ≡ pos 0
out_of_order minimum standard maximum value n =
    by_lt_z standard minimum (outside minimum standard maximum value) (λ h.
    by_lt_z maximum standard (outside_too minimum standard maximum value h) (λ k. absurd (n (h, k))))

at_least : (minimum maximum value at : ℤ) → minimum ≤ℤ maximum → IsClamped minimum maximum value at → minimum ≤ℤ at
at_least minimum maximum value at o (below h e) = omega (arith, ints, e)
at_least minimum maximum value at o (above h e) = omega (arith, ints, e, o)
at_least minimum maximum value at o (within h k e) = omega (arith, ints, e, h)

at_most : (minimum maximum value at : ℤ) → minimum ≤ℤ maximum → IsClamped minimum maximum value at → at ≤ℤ maximum
at_most minimum maximum value at o (below h e) = omega (arith, ints, e, o)
at_most minimum maximum value at o (above h e) = omega (arith, ints, e)
at_most minimum maximum value at o (within h k e) = omega (arith, ints, e, k)

some_below : (minimum standard at : ℤ) → minimum ≤ℤ at → at <ℤ standard → 0 < apart minimum standard
some_below minimum standard at h k = omega (arith, ints)

some_above : (maximum standard at : ℤ) → at ≤ℤ maximum → standard <ℤ at → 0 < apart maximum standard
some_above maximum standard at h k = omega (arith, ints)

computed : (minimum standard maximum value at : ℤ) → IsNormalized minimum standard maximum value at →
    normalized minimum standard maximum value ≡ at
computed minimum standard maximum value at (does_not_vary n e) = out_of_order minimum standard maximum value n ∙ sym e
computed minimum standard maximum value at (at_default o is e) =
    through minimum standard maximum value standard o is ∙ long-default minimum standard maximum ∙ sym e
computed minimum standard maximum value at (below_default o c far is h near e) =
    let s = some_below minimum standard c (at_least minimum maximum value c (omega (arith, ints, o.0, o.1)) is) h in
    through minimum standard maximum value c o is ∙ long-below minimum standard maximum c h
    ∙ ap (λ n. neg_ℤ (pos n)) (nearest-only (apart c standard * 65536) (apart minimum standard) far s near) ∙ sym e
computed minimum standard maximum value at (above_default o c far is h near e) =
    let s = some_above maximum standard c (at_most minimum maximum value c (omega (arith, ints, o.0, o.1)) is) h in
    through minimum standard maximum value c o is ∙ long-above minimum standard maximum c h
    ∙ ap pos (nearest-only (apart c standard * 65536) (apart maximum standard) far s near) ∙ sym e

-- ---- each value has a coordinate

record HasCoordinate (minimum standard maximum value : ℤ) : Type 0 where
  pub at : ℤ
  pub is : IsNormalized minimum standard maximum value at

within_order : (minimum standard maximum value : ℤ) → AreInOrder minimum standard maximum → HasCoordinate minimum standard maximum value
within_order minimum standard maximum value o =
    let m : minimum ≤ℤ maximum = omega (arith, ints, o.0, o.1) in
    let c : ℤ = clamped minimum maximum value in
    let is : IsClamped minimum maximum value c = is_clamped minimum maximum value m in
    by_lt_z c standard
    (λ h. record {
      at = neg_ℤ (pos (share (apart c standard) (apart minimum standard)));
      is = below_default o c (share (apart c standard) (apart minimum standard)) is h
          (nearest-is (apart c standard * 65536) (apart minimum standard)
          (some_below minimum standard c (at_least minimum maximum value c m is) h)) refl;
    })
    (λ h. by_lt_z standard c
    (λ k. record {
      at = pos (share (apart c standard) (apart maximum standard));
      is = above_default o c (share (apart c standard) (apart maximum standard)) is k
          (nearest-is (apart c standard * 65536) (apart maximum standard)
          (some_above maximum standard c (at_most minimum maximum value c m is) k)) refl;
    })
    (λ k. let e : c ≡ standard = omega (arith, ints, h, k) in
    record { at = pos 0; is = at_default o (subst (IsClamped minimum maximum value) e is) refl }))

has_one : (minimum standard maximum value : ℤ) → HasCoordinate minimum standard maximum value
has_one minimum standard maximum value =
    by_lt_z standard minimum (λ h. record { at = pos 0; is = does_not_vary (λ o. omega (arith, ints, o.0, h)) refl }) (λ h.
    by_lt_z maximum standard (λ k. record { at = pos 0; is = does_not_vary (λ o. omega (arith, ints, o.1, k)) refl }) (λ k.
    within_order minimum standard maximum value (h, k)))

pub normalizes : (minimum standard maximum value at : ℤ) →
    (normalized minimum standard maximum value ≡ at) ↔ IsNormalized minimum standard maximum value at
normalizes minimum standard maximum value at = (
  (λ e. let one = has_one minimum standard maximum value in
      subst (IsNormalized minimum standard maximum value) (sym (computed minimum standard maximum value one.at one.is) ∙ e) one.is),
  computed minimum standard maximum value at,
)

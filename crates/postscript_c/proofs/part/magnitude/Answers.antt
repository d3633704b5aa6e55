use Rattle.std.proofs.Common.{◌≡◌, ap, subst, ◌∙◌, ◌*◌, ◌/◌, ◌^◌, ◌-◌, min, ℤ, pos, true, false, rules, to_z, of_z, w32}
use Rattle.std.specs.Prelude.{int_lt}
use Rattle.std.specs.Int.RustNames.{unsigned_abs}
use Rattle.postscript_c.proofs.Cutting.{above, below, power_some}
use Rattle.postscript_c.proofs.part.magnitude.Goals as goal

pub nonzero_div-result : goal.nonzero_div-result
nonzero_div-result c = power_some c.unsigned_abs.result c.saturating_pow-power.result c.saturating_pow-power.ensures

pub returns-then-exponent-lt0 : goal.returns-then-exponent-lt0
returns-then-exponent-lt0 c =
    let power = c.saturating_pow-power.result in
    let same : to_z w32 (of_z w32 c.args.exponent) ≡ c.args.exponent = search rules in
    let power-is = subst (λ (e : ℤ). power ≡ min (10 ^ unsigned_abs e) (2 ^ 128 - 1)) same
    (rw c.unsigned_abs.ensures.value at c.saturating_pow-power.ensures) in
    let negative = subst (λ (e : ℤ). int_lt e (pos 0) ≡ true) same c.if-exponent-lt0.true in
    let found = below c.args.mantissa c.args.exponent power c.ranges.mantissa.fits negative power-is in
    (found.0, found.1, ap (λ m. m * 65536 / power) c.from-bits.ensures ∙ found.2)

pub returns-else-exponent-lt0 : goal.returns-else-exponent-lt0
returns-else-exponent-lt0 c =
    let power = c.saturating_pow-power.result in
    let same : to_z w32 (of_z w32 c.args.exponent) ≡ c.args.exponent = search rules in
    let power-is = subst (λ (e : ℤ). power ≡ min (10 ^ unsigned_abs e) (2 ^ 128 - 1)) same
    (rw c.unsigned_abs.ensures.value at c.saturating_pow-power.ensures) in
    let not-negative = subst (λ (e : ℤ). int_lt e (pos 0) ≡ false) same c.if-exponent-lt0.false in
    let found = above c.args.mantissa c.args.exponent power not-negative power-is in
    (found.0, found.1, c.saturating_mul.ensures ∙ ap (λ m. min (m * 65536 * power) (2 ^ 128 - 1)) c.from-bits.ensures ∙ found.2)

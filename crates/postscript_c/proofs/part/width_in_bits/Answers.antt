use Rattle.std.proofs.Common.{◌≡◌, ◌-◌, ◌^◌, ℕ, min, ℤ, pos, rules, subst, sym, to_z, of_z, w32, w64}
use Rattle.std.specs.Prelude.{int_lt}
use Rattle.std.specs.Int.{saturate_signed}
use Rattle.std.specs.Int.RustNames.{unsigned_abs}
use Rattle.postscript_base.specs.Compact1.Decimal.{signed}
use Rattle.postscript_c.specs.Widths.{AreIn, IsWidth}
use Rattle.postscript_c.proofs.Cutting.{cut}
use Rattle.postscript_c.proofs.part.width_in_bits.Goals as goal

pub returns : goal.returns
returns c =
    let m = c.mantissa-mantissa.result in
    let e = c.exponent.result in
    let bits = c.with_sign.result in
    let m-is : to_z w64 (of_z w64 m) ≡ m = search rules in
    let e-is : to_z w32 (of_z w32 e) ≡ e = search rules in
    let n-is : c.unsigned_abs.result ≡ unsigned_abs m = search rules in
    let same : to_z w64 (of_z w64 bits) ≡ bits = search rules in
    let found = subst (λ (e : ℤ). (x : ℕ) × AreIn c.unsigned_abs.result e x × (c.magnitude.result ≡ min x (2 ^ 128 - 1))) e-is
    c.magnitude.ensures in
    let told = subst (λ (m : ℤ). bits ≡ saturate_signed w64 (signed (int_lt m (pos 0)) c.magnitude.result)) m-is c.with_sign.ensures in
    subst (λ (bits : ℤ). IsWidth c.args.width bits) (sym same)
    (cut c.args.width c.in-Some.width m e c.unsigned_abs.result c.magnitude.result bits c.in-Some.is c.mantissa-mantissa.ensures.value
    c.exponent.ensures n-is found told)

use Rattle.std.proofs.Common.{◌≡◌, rules, inl, inr, refl, sym, subst, ℤ, to_z, of_z, w32}
use Rattle.postscript_c.specs.BoundsTold.{TellsTraced}
use Rattle.postscript_c.specs.Parts.{IsPartless}
use Rattle.postscript_c.proofs.Tracing.{traced-so}
use Rattle.postscript_c.proofs.exports.psf_glyph_bounds.Goals as goal

pub returns-in-Ok : goal.returns-in-Ok
returns-in-Ok c =
    let same : to_z w32 (of_z w32 c.bound.result) ≡ c.bound.result = search rules in
    let P : ℤ → Type 0 = λ status. TellsTraced c.traced_glyph.result status c.args.bounds.now c.bound.new.bounds in
    let told = traced-so c.args.bytes.now c.args.font.now c.in-Ok.part c.args.glyph c.traced_glyph.result _ c.args.bounds.now
    c.bound.new.bounds c.traced_glyph.ensures.found c.traced_glyph.ensures.why (subst P (sym same) c.bound.ensures) in
    inl (c.in-Ok.part, c.in-Ok.ensures, told)

pub returns-in-Err : goal.returns-in-Err
returns-in-Err c =
    let same : to_z w32 (of_z w32 c.in-Err.status) ≡ c.in-Err.status = search rules in
    inr (subst (λ (status : ℤ). IsPartless c.args.bytes.now c.args.font.now c.args.glyph status) (sym same) c.in-Err.ensures, refl)

use Rattle.std.proofs.Common.{◌≡◌, rules, inl, inr, refl, sym, subst, ℤ, to_z, of_z, w32}
use Rattle.postscript_c.specs.Shown.{found_shown}
use Rattle.postscript_c.specs.Answers.{Tells, room}
use Rattle.postscript_c.specs.Parts.{IsPartless}
use Rattle.postscript_c.proofs.exports.psf_glyph_outline.Goals as goal

pub returns-in-Ok : goal.returns-in-Ok
returns-in-Ok c =
    let same : to_z w32 (of_z w32 c.tell.result) ≡ c.tell.result = search rules in
    let P : ℤ → Type 0 = λ status. Tells (found_shown c.found_glyph.result) status
    (room c.args.segments.now c.args.count.now c.args.info.now) (room c.tell.new.segments c.tell.new.count c.tell.new.info) in
    inl (c.in-Ok.part, c.in-Ok.ensures, (found_shown c.found_glyph.result, c.found_glyph.ensures, subst P (sym same) c.tell.ensures))

pub returns-in-Err : goal.returns-in-Err
returns-in-Err c =
    let same : to_z w32 (of_z w32 c.in-Err.status) ≡ c.in-Err.status = search rules in
    inr (subst (λ (status : ℤ). IsPartless c.args.bytes.now c.args.font.now c.args.glyph status) (sym same) c.in-Err.ensures, refl)

use Rattle.std.proofs.Common.{◌≡◌, rules, inl, inr, refl, sym, subst, ℤ, to_z, of_z, w32}
use Rattle.postscript_c.specs.Flatness.{TellsFlatBy}
use Rattle.postscript_c.specs.Texts.{lent}
use Rattle.postscript_c.specs.Parts.{IsPartless}
use Rattle.postscript_c.proofs.exports.psf_glyph_flat.Goals as goal

pub returns-in-Ok : goal.returns-in-Ok
returns-in-Ok c =
    let same : to_z w32 (of_z w32 c.tell_flat_by.result) ≡ c.tell_flat_by.result = search rules in
    let P : ℤ → Type 0 = λ status. TellsFlatBy c.args.bytes.now c.args.font.now c.in-Ok.part c.args.glyph status
    (lent c.args.room.now c.args.count.now) (lent c.tell_flat_by.new.room c.tell_flat_by.new.count) in
    inl (c.in-Ok.part, c.in-Ok.ensures, subst P (sym same) c.tell_flat_by.ensures)

pub returns-in-Err : goal.returns-in-Err
returns-in-Err c =
    let same : to_z w32 (of_z w32 c.in-Err.status) ≡ c.in-Err.status = search rules in
    inr (subst (λ (status : ℤ). IsPartless c.args.bytes.now c.args.font.now c.args.glyph status) (sym same) c.in-Err.ensures, refl)

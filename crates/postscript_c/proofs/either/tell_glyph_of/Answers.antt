use Rattle.std.proofs.Common.{◌≡◌, rules, inr, refl, sym, subst, ℤ, to_z, of_z, w32}
use Rattle.postscript_c.specs.Parts.{IsPartless}
use Rattle.postscript_c.proofs.either.tell_glyph_of.Goals as goal

pub returns-in-Err : goal.returns-in-Err
returns-in-Err c =
    let same : to_z w32 (of_z w32 c.in-Err.status) ≡ c.in-Err.status = search rules in
    inr (subst (λ (status : ℤ). IsPartless c.args.bytes.now c.args.font.now c.args.glyph status) (sym same) c.in-Err.ensures, refl)

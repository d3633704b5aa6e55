use Rattle.std.proofs.Common.{refl, sym, subst, inl, ℕ}
use Rattle.postscript_sfnt.specs.Maps.{Maps}
use Rattle.postscript_c.proofs.files.tell_glyph.Goals as goal

pub returns-in-Some : goal.returns-in-Some
returns-in-Some c =
    let P : ℕ → Type 0 = λ glyph. Maps c.in-Some.map c.args.character glyph in
    inl (refl, c.in-Some.map, c.in-Some.ensures.found, subst P (sym c.from.ensures) c.glyph_of.ensures)

use Rattle.std.proofs.Common.{subst, refl, SFits, rules}
use Rattle.std.proofs.lemmas.Int.{to_z-of_z}
use mir.Syntax.{w128}
use Rattle.postscript_instance.specs.Advances.{HasRoom, IsAdvanceAt}
use Rattle.postscript_instance_file.specs.Glyphs.{NamesAdvance, of_all, of_glyph}
use Rattle.postscript_instance_file.specs.declared.error.Error.TheVariants as errors
use Rattle.postscript_instance_file.specs.declared.error.GlyphError.TheVariants as causes
use Rattle.postscript_instance_file.proofs.Advancing.{one_advance}
use Rattle.postscript_instance_file.proofs.drawn.unheld.Goals as goal

pub returns-in-Ok : goal.returns-in-Ok
returns-in-Ok c =
    let lacks = rw c.in-Advance.is at c.requires.lacks in
    let fits : SFits w128 c.of.result = search rules in
    let same = c.in-Ok.ensures.1 in
    let is_advance : IsAdvanceAt c.args.advances.now c.in-Advance.glyph c.of.result = rw same at c.of.ensures in
    let names : NamesAdvance c.args.face.now c.args.location.now (errors.Glyph c.in-Ok.gid (causes.Advance c.of.result)) = record {
      gid = c.in-Advance.glyph;
      there = lacks.0;
      advances = c.args.advances.now;
      are = c.requires.are;
      before = lacks.2.0;
      have_room = lacks.2.1;
      advance = c.of.result;
      is_advance = is_advance;
      no_room = λ room. lacks.1.3 (subst HasRoom (one_advance c.args.advances.now c.in-Advance.glyph _ _ is_advance lacks.1.2) room);
      is = rw same refl;
    } in
    rw (to_z-of_z w128 c.of.result fits) (of_glyph names)

pub returns-in-Err : goal.returns-in-Err
returns-in-Err c =
    of_all c.args.advances.now _ c.requires.are (rw c.in-Advance.is at c.requires.lacks) refl

pub returns-in_default : goal.returns-in_default
returns-in_default c = of_all c.args.advances.now c.args.error c.requires.are c.requires.lacks refl

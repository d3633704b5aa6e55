use Rattle.std.proofs.Common.{◌≡◌, rules, sym, subst, Ok, ℤ, to_z, of_z, w32}
use Rattle.postscript_c.specs.Either.{TellsGlyphOf}
use Rattle.postscript_c.specs.Law.{OpensFont}
use Rattle.postscript_c.specs.VariedTold.{outline_room}
use Rattle.postscript_c.specs.declared.font.PsfFont.{PsfFont}
use Rattle.postscript_c.proofs.Agreeing.{font_of}
use Rattle.postscript_c.proofs.either.tell_plain.Goals as goal

pub returns-in-Ok : goal.returns-in-Ok
returns-in-Ok c =
    let same : to_z w32 (of_z w32 c.tell_glyph_of.result) ≡ c.tell_glyph_of.result = search rules in
    let is = font_of c.open_font.result c.args.bytes.now (c.open_font.ensures.exact 0) c.open_font.ensures.widths c.open_font.ensures.limit in
    let Tells : PsfFont → ℤ → Type 0 = λ font status. TellsGlyphOf c.args.bytes.now font c.args.glyph status
    (outline_room c.args.segments.now c.args.count.now c.args.bounds.now)
    (outline_room c.tell_glyph_of.new.segments c.tell_glyph_of.new.count c.tell_glyph_of.new.bounds) in (
      Ok c.in-Ok.font,
      subst (OpensFont c.args.bytes.now) c.in-Ok.is is,
      subst (λ font. Tells font (to_z w32 (of_z w32 c.tell_glyph_of.result))) c.with_limit.ensures
          (subst (Tells c.with_limit.result) (sym same) c.tell_glyph_of.ensures),
    )

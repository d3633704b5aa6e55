use Rattle.std.proofs.Common.{◌≡◌, rules, sym, subst, ℤ, to_z, of_z, w32}
use Rattle.postscript_c.specs.Either.{TellsGlyphsOf}
use Rattle.postscript_c.proofs.Agreeing.{font_of}
use Rattle.postscript_c.proofs.either.tell_count_plain.Goals as goal

pub returns : goal.returns
returns c =
    let same : to_z w32 (of_z w32 c.tell_glyphs_of.result) ≡ c.tell_glyphs_of.result = search rules in
    let P : ℤ → Type 0 = λ status. TellsGlyphsOf c.open_font-answer.result status c.args.count.now c.tell_glyphs_of.new.count in
    let is = font_of c.open_font-answer.result c.args.bytes.now
    (c.open_font-answer.ensures.exact 0) c.open_font-answer.ensures.widths c.open_font-answer.ensures.limit in
    (c.open_font-answer.result, is, subst P (sym same) c.tell_glyphs_of.ensures)

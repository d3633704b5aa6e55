use Rattle.std.proofs.Common.{◌<◌, ◌∙◌, sym, get_or, arith}
use Rattle.postscript_layout_write.proofs.Renumbered.{number-small}
use Rattle.postscript_layout_write.proofs.renumbering.renumber.Goals as goal

pub overflow_cast-number : goal.overflow_cast-number
overflow_cast-number c =
    let g = get_or c.args.glyphs.now c.loop-glyph.glyph-index 0 in
    let less : g < 65536 = (let fits = c.type_inv.glyphs c.loop-glyph.glyph-index in omega (arith, fits)) in
    let small = number-small c.args.kept.now g c.in-Some.number (sym (c.requires.exact.each g less) ∙ c.in-Some.is) in
    let few = c.requires.few in
    omega (arith, small, few)

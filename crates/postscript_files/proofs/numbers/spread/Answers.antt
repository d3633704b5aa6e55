use Rattle.std.proofs.Common.{◌≡◌, ◌+◌, length, subst, sym, arith}
use Rattle.postscript_files.proofs.Spreading.{AreSpreadTo, spread-all, spread-more}
use Rattle.postscript_files.proofs.numbers.spread.Goals as goal

pub loop-glyph-preserved : goal.loop-glyph-preserved
loop-glyph-preserved c =
    subst (AreSpreadTo c.args.glyphs.now (c.loop-glyph.glyph-index + 1) c.args.count) (sym c.place.ensures)
    (spread-more c.args.glyphs.now c.loop-glyph.glyph-index c.args.count c.loop-glyph.all.items c.loop-glyph-test.true c.loop-glyph.invariant)

pub returns-clause-spread : goal.returns-clause-spread
returns-clause-spread c =
    let e : c.loop-glyph.glyph-index ≡ length c.args.glyphs.now = omega arith in
    spread-all c.args.glyphs.now c.args.count c.loop-glyph.all.items
    (subst (λ i. AreSpreadTo c.args.glyphs.now i c.args.count c.loop-glyph.all.items) e c.loop-glyph.invariant)

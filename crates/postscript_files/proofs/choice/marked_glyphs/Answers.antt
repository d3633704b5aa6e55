use Rattle.std.proofs.Common.{◌≡◌, ◌+◌, List, Bool, length, subst, sym, arith}
use Rattle.postscript_files.proofs.Marking.{AreMarkedTo, marked-all, marked-more, marked-none}
use Rattle.postscript_files.proofs.choice.marked_glyphs.Goals as goal

pub loop-glyph-init : goal.loop-glyph-init
loop-glyph-init c =
    marked-none c.args.glyphs.now c.args.count c.in_ok-marks.marks.items c.in_ok-marks.ensures.many c.in_ok-marks.ensures.none

pub loop-glyph-preserved : goal.loop-glyph-preserved
loop-glyph-preserved c =
    subst (λ (ms : List Bool). AreMarkedTo c.args.glyphs.now (c.loop-glyph.glyph-index + 1) c.args.count ms) (sym c.set.ensures)
    (marked-more c.args.glyphs.now c.loop-glyph.glyph-index c.args.count c.loop-glyph.marks.items c.loop-glyph-test.true c.loop-glyph.invariant)

pub returns-clause-marks : goal.returns-clause-marks
returns-clause-marks c =
    let e : c.loop-glyph.glyph-index ≡ length c.args.glyphs.now = omega arith in
    marked-all c.args.glyphs.now c.args.count c.loop-glyph.marks.items
    (subst (λ i. AreMarkedTo c.args.glyphs.now i c.args.count c.loop-glyph.marks.items) e c.loop-glyph.invariant)

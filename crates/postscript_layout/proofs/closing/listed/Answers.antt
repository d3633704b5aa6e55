use Rattle.postscript_layout.proofs.Listing.{lists-set, lists-unset}
use Rattle.postscript_layout.proofs.closing.listed.Goals as goal
use Rattle.postscript_layout.proofs.closing.listed.Goals.{then-marks-glyph+in_ok-push, else-marks-glyph}

pub loop-glyph-preserved : goal.loop-glyph-preserved
loop-glyph-preserved c =
    let marks = c.args.marks.now in
    let n = c.loop-glyph.glyph in
    let items = c.loop-glyph.glyphs.items in
    elim c.if-marks-glyph.branch [
      | then-marks-glyph+in_ok-push w ↦ rw w.glyphs-is (rw w.in_ok-push.ensures.items
          (lists-set marks n items c.loop-glyph.invariant w.if-marks-glyph.true))
      | else-marks-glyph w ↦ rw w.glyphs-is (lists-unset marks n items c.loop-glyph.invariant w.if-marks-glyph.false)
    ]

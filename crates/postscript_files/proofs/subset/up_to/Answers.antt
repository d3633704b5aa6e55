use Rattle.postscript_files.proofs.Same.{range-pushed}
use Rattle.postscript_files.proofs.subset.up_to.Goals as goal

pub loop-glyph-preserved : goal.loop-glyph-preserved
loop-glyph-preserved c =
    range-pushed c.loop-glyph.all.items c.push.new.self.items c.loop-glyph.glyph c.loop-glyph.invariant c.in_ok-push.ensures.items

use Rattle.postscript_write.proofs.Marks.{every_more}
use Rattle.postscript_write.proofs.sources.every.Goals as goal

pub loop-glyph-preserved : goal.loop-glyph-preserved
loop-glyph-preserved c =
    every_more c.loop-glyph.sources.items c.push.new.self.items c.loop-glyph.glyph c.loop-glyph.invariant c.in_ok-push.ensures.items

use Rattle.postscript_write.proofs.Ranges.{AreLeft}
use Rattle.postscript_write.proofs.spans.ranges_len.Given as goal

abbrev pub invariant-loop-r : goal.invariant-loop-r
invariant-loop-r l = AreLeft l.ranges l.size l.glyphs l.r l.left

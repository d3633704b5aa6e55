use Rattle.postscript_files.proofs.Marking.{AreMarkedTo}
use Rattle.postscript_files.proofs.choice.marked_glyphs.Given as goal

abbrev pub invariant-loop-glyph : goal.invariant-loop-glyph
invariant-loop-glyph l = AreMarkedTo l.glyphs l.glyph-index l.count l.marks.items

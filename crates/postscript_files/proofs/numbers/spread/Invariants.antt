use Rattle.postscript_files.proofs.Spreading.{AreSpreadTo}
use Rattle.postscript_files.proofs.numbers.spread.Given as goal

abbrev pub invariant-loop-glyph : goal.invariant-loop-glyph
invariant-loop-glyph l = AreSpreadTo l.glyphs l.glyph-index l.count l.all.items

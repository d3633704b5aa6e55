use Rattle.postscript_instance.specs.Advances.{AreAdvancesAt}
use Rattle.postscript_instance.proofs.advances.AdvancesAt.operands.Given as goal

-- the advances so far
abbrev pub invariant-loop-glyph : goal.invariant-loop-glyph
invariant-loop-glyph l = AreAdvancesAt l.self l.glyph l.operands.items

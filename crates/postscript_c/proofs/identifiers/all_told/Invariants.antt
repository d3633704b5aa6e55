use Rattle.postscript_c.specs.Identifiers.{AreIdentifiers}
use Rattle.postscript_c.proofs.identifiers.all_told.Given as goal

-- the glyphs so far
abbrev pub invariant-loop-glyph : goal.invariant-loop-glyph
invariant-loop-glyph l = AreIdentifiers l.set l.glyph l.all.items

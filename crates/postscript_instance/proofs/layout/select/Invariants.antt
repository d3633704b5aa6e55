use Rattle.postscript_instance.specs.Encoded.{IsSelectText}
use Rattle.postscript_instance.proofs.layout.select.Given as goal

-- the glyphs so far
abbrev pub invariant-loop-glyph : goal.invariant-loop-glyph
invariant-loop-glyph l = IsSelectText l.font l.glyph l.select.items

use Rattle.std.proofs.Common.{◌≡◌, ◌++◌, drop, map}
use Rattle.postscript_sequences.proofs.parts.put_glyphs.Given as goal

abbrev pub invariant-loop-glyph : goal.invariant-loop-glyph
invariant-loop-glyph l = l.glyphs.items ++ map (λ one. one.1) (drop l.glyph-index l.mapped) ≡ l.fn.glyphs.items ++ map (λ one. one.1) l.mapped

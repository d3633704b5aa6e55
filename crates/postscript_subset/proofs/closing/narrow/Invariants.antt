use Rattle.std.proofs.Common.{◌≡◌, take}
use Rattle.postscript_subset.proofs.closing.narrow.Given as goal

abbrev pub invariant-loop-glyph : goal.invariant-loop-glyph
invariant-loop-glyph l = l.narrow.items ≡ take l.glyph-index l.glyphs

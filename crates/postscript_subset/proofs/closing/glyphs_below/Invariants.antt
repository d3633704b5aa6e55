use Rattle.std.proofs.Common.{◌≡◌, take}
use Rattle.postscript_subset.specs.Closing.{below as the_below}
use Rattle.postscript_subset.proofs.closing.glyphs_below.Given as goal

abbrev pub invariant-loop-glyph : goal.invariant-loop-glyph
invariant-loop-glyph l = l.found.items ≡ the_below l.count (take l.glyph-index l.glyphs)

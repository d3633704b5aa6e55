use Rattle.postscript_layout.proofs.Listing.{Lists}
use Rattle.postscript_layout.proofs.closing.listed.Given as goal

abbrev pub invariant-loop-glyph : goal.invariant-loop-glyph
invariant-loop-glyph l = Lists l.marks l.glyph l.glyphs.items

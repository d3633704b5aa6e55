use Rattle.std.proofs.Common.{take}
use Rattle.postscript_layout.specs.Steps.{HoldsMore}
use Rattle.postscript_layout.proofs.glyph_set.GlyphSet.hold_all.Given as goal

abbrev pub invariant-loop-i : goal.invariant-loop-i
invariant-loop-i l = HoldsMore l.fn.self (take l.i l.glyphs) l.self

use Rattle.std.proofs.Common.{◌≡◌, ◌++◌, drop}
use Rattle.postscript_layout_write.specs.Text.{array_text}
use Rattle.postscript_layout_write.proofs.subtables.put_glyphs.Given as goal

-- the numbers that are left complete the array
abbrev pub invariant-loop-glyph : goal.invariant-loop-glyph
invariant-loop-glyph l = l.out.items ++ array_text (drop l.glyph-index l.glyphs) ≡ l.fn.out.items ++ array_text l.glyphs

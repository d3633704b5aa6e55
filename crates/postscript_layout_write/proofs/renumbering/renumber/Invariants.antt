use Rattle.std.proofs.Common.{◌≡◌, drop}
use Rattle.postscript_layout_write.specs.Renumbering.{renumbered}
use Rattle.postscript_layout_write.proofs.Renumbered.{with_front}
use Rattle.postscript_layout_write.proofs.renumbering.renumber.Given as goal

-- the new numbers so far, and those of the glyphs that are left
abbrev pub invariant-loop-glyph : goal.invariant-loop-glyph
invariant-loop-glyph l = renumbered l.kept l.glyphs ≡ with_front l.new.items (renumbered l.kept (drop l.glyph-index l.glyphs))

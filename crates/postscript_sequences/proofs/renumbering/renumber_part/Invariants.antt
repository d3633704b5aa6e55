use Rattle.std.proofs.Common.{take}
use Rattle.postscript_sequences.specs.Keeping.{AreRenumbered}
use Rattle.postscript_sequences.proofs.renumbering.renumber_part.Given as goal

abbrev pub invariant-loop-char : goal.invariant-loop-char
invariant-loop-char l = AreRenumbered l.glyphs (take l.char-index l.char-items) l.mapped.items

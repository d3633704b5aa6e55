use Rattle.std.proofs.Common.{take}
use Rattle.postscript_sequences.specs.Keeping.{AreKept}
use Rattle.postscript_sequences.proofs.renumbering.kept_parts.Given as goal

abbrev pub invariant-loop-part : goal.invariant-loop-part
invariant-loop-part l = AreKept l.glyphs (take l.part-index l.parts) l.kept.items

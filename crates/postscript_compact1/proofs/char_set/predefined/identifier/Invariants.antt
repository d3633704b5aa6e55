use Rattle.std.proofs.Common.{drop}
use Rattle.postscript_compact1.proofs.GlyphRuns.{IsSought}
use Rattle.postscript_compact1.proofs.char_set.predefined.identifier.Given as goal

abbrev pub invariant-loop-first : goal.invariant-loop-first
invariant-loop-first l = IsSought l.runs l.gid (drop l.first-index l.runs) l.place

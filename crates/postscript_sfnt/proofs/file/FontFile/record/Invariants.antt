use Rattle.std.proofs.Common.{ℕ, ◌<◌}
use Rattle.postscript_sfnt.specs.Directory.{Names}
use Rattle.postscript_sfnt.proofs.file.FontFile.record.Given as goal

-- no record before this one names a table of the tag
abbrev pub invariant-loop-i : goal.invariant-loop-i
invariant-loop-i l = (k : ℕ) → k < l.i → Names l.self.bytes.now l.self.start l.tag k → ⊥

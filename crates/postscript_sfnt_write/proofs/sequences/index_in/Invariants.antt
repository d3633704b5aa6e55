use Rattle.std.proofs.Common.{ℕ, ◌<◌}
use Rattle.postscript_sfnt_write.specs.Sequences.{IsLower}
use Rattle.postscript_sfnt_write.proofs.sequences.index_in.Given as goal

-- the first records are lower
abbrev pub invariant-loop-i : goal.invariant-loop-i
invariant-loop-i l = (k : ℕ) → k < l.i → IsLower l.cmap k

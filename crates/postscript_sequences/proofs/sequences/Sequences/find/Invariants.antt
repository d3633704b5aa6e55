use Rattle.std.proofs.Common.{ℕ, ◌<◌}
use Rattle.postscript_sequences.specs.Sequences.{IsSubtable}
use Rattle.postscript_sequences.proofs.sequences.Sequences.find.Given as goal

-- no record so far has such a subtable
abbrev pub invariant-loop-i : goal.invariant-loop-i
invariant-loop-i l = (k : ℕ) → k < l.i → IsSubtable l.cmap k → ⊥

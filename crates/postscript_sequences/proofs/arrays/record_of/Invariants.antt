use Rattle.std.proofs.Common.{ℕ, ◌<◌}
use Rattle.postscript_sequences.specs.Tables.{selector_at}
use Rattle.postscript_sequences.proofs.arrays.record_of.Given as goal

abbrev pub invariant-loop-i : goal.invariant-loop-i
invariant-loop-i l = (k : ℕ) → k < l.i → selector_at l.table k < l.wanted

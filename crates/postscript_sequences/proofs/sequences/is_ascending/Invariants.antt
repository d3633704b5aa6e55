use Rattle.std.proofs.Common.{ℕ, ◌<◌, get_or}
use Rattle.postscript_sequences.proofs.sequences.is_ascending.Given as goal

abbrev pub invariant-loop-i : goal.invariant-loop-i
invariant-loop-i l = (j k : ℕ) → j < k → k < l.i → get_or l.chars j 0 < get_or l.chars k 0

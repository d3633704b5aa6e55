use Rattle.std.proofs.Common.{◌≤◌}
use Rattle.postscript_sequences.specs.Tables.{last_at, ranges_of}
use Rattle.postscript_sequences.specs.Said.{IsBelow}
use Rattle.postscript_sequences.proofs.arrays.range_from.Given as goal

abbrev pub invariant-loop-k : goal.invariant-loop-k
invariant-loop-k l = (l.from ≤ l.k) × IsBelow (last_at l.table l.offset) (ranges_of l.table l.offset) l.char l.k

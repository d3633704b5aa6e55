use Rattle.std.proofs.Common.{◌≤◌}
use Rattle.postscript_sequences.specs.Tables.{char_at, mappings_of}
use Rattle.postscript_sequences.specs.Said.{IsBelow}
use Rattle.postscript_sequences.proofs.arrays.mapping_from.Given as goal

abbrev pub invariant-loop-k : goal.invariant-loop-k
invariant-loop-k l = (l.from ≤ l.k) × IsBelow (char_at l.table l.offset) (mappings_of l.table l.offset) l.char l.k

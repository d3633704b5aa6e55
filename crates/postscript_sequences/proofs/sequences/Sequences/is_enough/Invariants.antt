use Rattle.std.proofs.Common.{◌≡◌, ◌+◌, length}
use Rattle.postscript_sequences.specs.Sequences.{table_of}
use Rattle.postscript_sequences.specs.Units.{units_to}
use Rattle.postscript_sequences.proofs.sequences.Sequences.is_enough.Given as goal

-- the first records have their units
abbrev pub invariant-loop-i : goal.invariant-loop-i
invariant-loop-i l = l.left + units_to (table_of l.self) (length l.chars) l.i ≡ l.limit

use Rattle.std.proofs.Common.{ℕ, ◌<◌}
use Rattle.postscript_sfnt.specs.NameTable.{name_rank_at}
use Rattle.postscript_text.proofs.names.is_of_windows.Given as goal

-- the records so far have lower ranks
abbrev pub invariant-loop-i : goal.invariant-loop-i
invariant-loop-i l = (k : ℕ) → k < l.i → name_rank_at l.table l.identifier k < 4

use Rattle.std.proofs.Common.{◌≡◌, ℕ, ◌<◌, ◌≤◌}
use Rattle.postscript_sfnt.specs.NameTable.{name_rank_at}
use Rattle.postscript_sfnt.proofs.names.Names.best.Given as goal

-- the highest rank so far is that of the best record, which is the first one of it
abbrev pub invariant-loop-i : goal.invariant-loop-i
invariant-loop-i l =
    ((k : ℕ) → k < l.i → name_rank_at l.self.table.now l.identifier k ≤ l.high) × (0 < l.high → l.best < l.i)
    × (0 < l.high → name_rank_at l.self.table.now l.identifier l.best ≡ l.high)
    × ((k : ℕ) → 0 < l.high → k < l.best → name_rank_at l.self.table.now l.identifier k < l.high)

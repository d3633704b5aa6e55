use Rattle.std.proofs.Common.{ℕ, ◌+◌, ◌*◌, ◌<◌, ◌≤◌, length}
use Rattle.postscript_sfnt.specs.Choice.{place_at}
use Rattle.postscript_sfnt_write.proofs.sequences.are_within.Given as goal

-- the subtables of the first records are within
abbrev pub invariant-loop-i : goal.invariant-loop-i
invariant-loop-i l = (k : ℕ) → k < l.i → (4 + l.count * 8 ≤ place_at l.cmap k) × (place_at l.cmap k + 2 ≤ length l.cmap)

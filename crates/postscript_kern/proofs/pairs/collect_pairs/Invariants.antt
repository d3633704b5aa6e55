use Rattle.std.proofs.Common.{◌≡◌, ◌+◌, ◌≤◌}
use Rattle.postscript_kern.specs.Kept.{AreCollected}
use Rattle.postscript_kern.proofs.pairs.collect_pairs.Given as goal

-- the pairs of the records so far
abbrev pub invariant-loop-k : goal.invariant-loop-k
invariant-loop-k l = record { exact : AreCollected l.table l.kept l.at l.k l.pairs; spends : l.limit ≤ l.fn.limit; paid : l.fn.limit ≡ l.limit + l.k }

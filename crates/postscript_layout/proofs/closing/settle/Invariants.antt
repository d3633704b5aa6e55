use Rattle.std.proofs.Common.{◌≤◌}
use Rattle.postscript_layout.proofs.Listing.{Reaches}
use Rattle.postscript_layout.proofs.Rounds.{Rounds}
use Rattle.postscript_layout.proofs.closing.settle.Given as goal

abbrev pub invariant-loop-limit : goal.invariant-loop-limit
invariant-loop-limit l = record {
  reaches : Reaches l.gsub l.lookups l.fn.set l.set;
  spent : l.limit ≤ l.fn.limit;
  rounds : Rounds l.gsub l.lookups l.fn.set l.set l.fn.limit l.limit;
}

abbrev pub decreases-loop-limit : goal.decreases-loop-limit
decreases-loop-limit l = l.limit

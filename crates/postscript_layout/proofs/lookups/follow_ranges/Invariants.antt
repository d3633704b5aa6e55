use Rattle.std.proofs.Common.{◌+◌, ◌*◌, ◌≤◌}
use Rattle.postscript_layout.specs.Steps.{Below, Follows, in_range}
use Rattle.postscript_layout.specs.Costs.{range_cost, total}
use Rattle.postscript_layout.proofs.lookups.follow_ranges.Given as goal

abbrev pub invariant-loop-r : goal.invariant-loop-r
invariant-loop-r l = record {
  follows : Follows (Below (λ r. in_range l.gsub l.kind l.subtable (l.coverage + 4 + r * 6)) l.r) l.fn.set l.set;
  spent : l.limit ≤ l.fn.limit;
  within : l.fn.limit ≤ l.limit + total (λ r. range_cost l.gsub l.kind l.subtable (l.coverage + 4 + r * 6)) l.r;
}

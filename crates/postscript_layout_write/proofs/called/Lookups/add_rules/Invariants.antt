use Rattle.std.proofs.Common.{◌≤◌}
use Rattle.postscript_layout_write.specs.Reaching.{AddsOnly, ListedCalls}
use Rattle.postscript_layout_write.proofs.called.Lookups.add_rules.Given as goal

abbrev pub invariant-loop-k : goal.invariant-loop-k
invariant-loop-k l = record {
  added : AddsOnly (ListedCalls l.gsub l.kind l.labels l.start l.set l.k) l.fn.self.lookups.items l.self.lookups.items;
  spent : l.limit ≤ l.fn.limit;
}

use Rattle.std.proofs.Common.{◌≤◌, take}
use Rattle.std.specs.List.{Contains}
use Rattle.postscript_layout_write.specs.Reaching.{AddsOnly}
use Rattle.postscript_layout_write.proofs.called.Lookups.add_all.Given as goal

abbrev pub invariant-loop-lookup : goal.invariant-loop-lookup
invariant-loop-lookup l = record {
  added : AddsOnly (λ m. Contains (take l.lookup-index l.lookups) m) l.fn.self.lookups.items l.self.lookups.items;
  spent : l.limit ≤ l.fn.limit;
}

use Rattle.std.proofs.Common.{◌+◌, ◌≤◌}
use Rattle.std.specs.Prelude.{slice_index}
use Rattle.postscript_layout.specs.Substitutions.{ByIndex}
use Rattle.postscript_layout.specs.Steps.{Below, Follows}
use Rattle.postscript_layout.specs.Costs.{index_cost, total}
use Rattle.postscript_layout.proofs.lookups.follow_each.Given as goal

abbrev pub invariant-loop-k : goal.invariant-loop-k
invariant-loop-k l = record {
  follows : Follows (Below (λ k. ByIndex l.gsub (slice_index l.lookups k)) l.k) l.fn.set l.set;
  spent : l.limit ≤ l.fn.limit;
  within : l.fn.limit ≤ l.limit + total (λ k. 1 + index_cost l.gsub (slice_index l.lookups k)) l.k;
}

use Rattle.std.proofs.Common.{◌+◌, ◌≤◌}
use Rattle.postscript_layout.specs.Costs.{total}
use Rattle.postscript_layout.specs.Features.{feature_at}
use Rattle.postscript_layout.specs.Numbers.{word}
use Rattle.postscript_layout.specs.Steps.{Gathers}
use Rattle.postscript_layout.proofs.Named.{NamedBelow}
use Rattle.postscript_layout.proofs.features.put_features.Given as goal

abbrev pub invariant-loop-i : goal.invariant-loop-i
invariant-loop-i l = record {
  gathers : Gathers (NamedBelow l.table l.tags l.i) l.fn.set l.set;
  spent : l.limit ≤ l.fn.limit;
  within : l.fn.limit ≤ l.limit + total (λ i. 1 + word l.table (feature_at l.table i + 2)) l.i;
}

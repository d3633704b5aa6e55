use Rattle.std.proofs.Common.{◌≤◌}
use Rattle.postscript_layout_write.specs.Lookups.{HasLast}
use Rattle.postscript_layout_write.proofs.positioning.last_of.Given as goal

abbrev pub invariant-loop-k : goal.invariant-loop-k
invariant-loop-k l = record {
  last : HasLast l.scope l.gpos l.kept l.k l.last.distances.items l.last.lookups.items l.last.subtables.items;
  spent : l.limit ≤ l.fn.limit;
}

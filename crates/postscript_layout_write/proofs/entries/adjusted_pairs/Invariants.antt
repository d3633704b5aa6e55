use Rattle.std.proofs.Common.{◌≤◌}
use Rattle.std.specs.Prelude.{slice_index}
use Rattle.postscript_layout_write.specs.Entries.{AreEntries}
use Rattle.postscript_layout_write.specs.Pairs.{by_lookup}
use Rattle.postscript_layout_write.proofs.entries.adjusted_pairs.Given as goal

abbrev pub invariant-loop-k : goal.invariant-loop-k
invariant-loop-k l = record {
  entries : AreEntries (λ y. by_lookup l.gpos l.lookup l.first (slice_index l.kept y)) l.k l.entries.items;
  spent : l.limit ≤ l.fn.limit;
}

use Rattle.std.proofs.Common.{◌≤◌}
use Rattle.postscript_layout_write.specs.Coverages.{AreRanged}
use Rattle.postscript_layout_write.proofs.coverages.marks_of_ranges.Given as goal

abbrev pub invariant-loop-r : goal.invariant-loop-r
invariant-loop-r l = record {
  marked : AreRanged l.table l.coverage l.r l.marks.items;
  spent : l.limit ≤ l.fn.limit;
}

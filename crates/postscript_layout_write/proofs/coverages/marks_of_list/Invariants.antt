use Rattle.std.proofs.Common.{◌≤◌}
use Rattle.postscript_layout_write.specs.Coverages.{AreListed}
use Rattle.postscript_layout_write.proofs.coverages.marks_of_list.Given as goal

abbrev pub invariant-loop-i : goal.invariant-loop-i
invariant-loop-i l = record {
  marked : AreListed l.table l.coverage l.i l.marks.items;
  spent : l.limit ≤ l.fn.limit;
}

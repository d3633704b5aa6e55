use Rattle.std.proofs.Common.{◌≤◌}
use Rattle.postscript_layout_write.specs.MarkSets.{AreMarkSets}
use Rattle.postscript_layout_write.proofs.definitions.mark_sets.Given as goal

abbrev pub invariant-loop-set : goal.invariant-loop-set
invariant-loop-set l = record {
  are : AreMarkSets l.gdef l.base l.kept l.set l.numbers.items l.bytes.items;
  spent : l.limit ≤ l.fn.limit;
}

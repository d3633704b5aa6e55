use Rattle.std.proofs.Common.{◌≤◌}
use Rattle.postscript_layout_write.specs.MarkSets.{AreMembers}
use Rattle.postscript_layout_write.proofs.definitions.members_of.Given as goal

abbrev pub invariant-loop-k : goal.invariant-loop-k
invariant-loop-k l = record {
  are : AreMembers l.gdef l.set l.kept l.k l.members.items;
  spent : l.limit ≤ l.fn.limit;
}

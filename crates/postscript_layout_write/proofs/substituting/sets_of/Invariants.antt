use Rattle.std.proofs.Common.{◌≤◌}
use Rattle.postscript_layout_write.specs.RuleSets.{AreRuleSets}
use Rattle.postscript_layout_write.specs.Substituting.{rules_at}
use Rattle.postscript_layout_write.proofs.substituting.sets_of.Given as goal

abbrev pub invariant-loop-k : goal.invariant-loop-k
invariant-loop-k l = record {
  sets : AreRuleSets l.kind (rules_at l.gsub l.kept l.lookup) l.k l.sets.firsts.items l.sets.offsets.items l.sets.bytes.items;
  spent : l.limit ≤ l.fn.limit;
}

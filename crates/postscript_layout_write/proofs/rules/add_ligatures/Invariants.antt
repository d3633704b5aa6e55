use Rattle.std.proofs.Common.{◌≡◌, ◌≤◌, ◌++◌}
use Rattle.postscript_layout_write.specs.Renumbering.{kept_rules}
use Rattle.postscript_layout_write.specs.RuleSets.{lists}
use Rattle.postscript_layout_write.specs.Rules.{ligature_rules}
use Rattle.postscript_layout_write.proofs.rules.add_ligatures.Given as goal

abbrev pub invariant-loop-k : goal.invariant-loop-k
invariant-loop-k l = record {
  added : lists l.rules.items ≡ lists l.fn.rules.items ++ kept_rules l.kept (ligature_rules l.gsub l.set l.k);
  spent : l.limit ≤ l.fn.limit;
}

use Rattle.std.proofs.Common.{◌≡◌, ◌≤◌}
use Rattle.postscript_layout_write.specs.Renumbering.{kept_rules}
use Rattle.postscript_layout_write.specs.RuleSets.{lists}
use Rattle.postscript_layout_write.specs.Rules.{all_rules}
use Rattle.postscript_layout_write.proofs.rules.all_rules.Given as goal

abbrev pub invariant-loop-j : goal.invariant-loop-j
invariant-loop-j l = record {
  rules : lists l.rules.items ≡ kept_rules l.kept (all_rules l.gsub l.lookup l.kind l.glyph l.j);
  spent : l.limit ≤ l.fn.limit;
}

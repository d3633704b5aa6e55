use Rattle.std.proofs.Common.{◌≡◌, ◌++◌, drop}
use Rattle.postscript_layout_write.specs.RuleSets.{ligatures_text, lists}
use Rattle.postscript_layout_write.proofs.rule_sets.put_each.Given as goal

-- the ligatures that are left complete the text
abbrev pub invariant-loop-rule : goal.invariant-loop-rule
invariant-loop-rule l = l.out.items ++ ligatures_text (lists (drop l.rule-index l.rules)) ≡ l.fn.out.items ++ ligatures_text (lists l.rules)

use Rattle.std.proofs.Common.{◌≡◌, ◌≤◌, [], None}
use Rattle.postscript_layout_write.specs.First.{first_some}
use Rattle.postscript_layout_write.specs.RuleSets.{lists}
use Rattle.postscript_layout_write.specs.Rules.{part_at, rules_in}
use Rattle.postscript_layout_write.proofs.rules.first_rules.Given as goal

abbrev pub invariant-loop-j : goal.invariant-loop-j
invariant-loop-j l = record {
  none : lists l.rules.items ≡ [];
  before : first_some (λ j. rules_in l.gsub l.kind (part_at l.gsub l.lookup l.kind j) l.glyph) l.j ≡ None;
  spent : l.limit ≤ l.fn.limit;
}

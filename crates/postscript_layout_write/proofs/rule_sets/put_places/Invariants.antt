use Rattle.std.proofs.Common.{◌≡◌, ◌++◌, drop}
use Rattle.postscript_layout_write.specs.RuleSets.{PlacesFit, lists, places_text}
use Rattle.postscript_layout_write.proofs.rule_sets.put_places.Given as goal

-- the offsets that are left complete the text, and all fit if these do
abbrev pub invariant-loop-rule : goal.invariant-loop-rule
invariant-loop-rule l = record {
  text : l.out.items ++ places_text l.at (lists (drop l.rule-index l.rules)) ≡ l.fn.out.items ++ places_text l.start (lists l.rules);
  fit : PlacesFit l.at (lists (drop l.rule-index l.rules)) → PlacesFit l.start (lists l.rules);
}

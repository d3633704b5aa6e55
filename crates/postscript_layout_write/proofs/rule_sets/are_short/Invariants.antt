use Rattle.std.proofs.Common.{take}
use Rattle.std.specs.List.{All}
use Rattle.postscript_layout_write.specs.RuleSets.{IsShort, lists}
use Rattle.postscript_layout_write.proofs.rule_sets.are_short.Given as goal

abbrev pub invariant-loop-rule : goal.invariant-loop-rule
invariant-loop-rule l = All IsShort (lists (take l.rule-index l.rules))

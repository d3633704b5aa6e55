use Rattle.std.proofs.Common.{◌≤◌}
use Rattle.postscript_layout_write.specs.RuleLookups.{HasRuleLookups}
use Rattle.postscript_layout_write.proofs.substituting.place_each.Given as goal

abbrev pub invariant-loop-i : goal.invariant-loop-i
invariant-loop-i l = record {
  lookups : HasRuleLookups l.whole l.gsub l.lookups l.kept l.i l.placed.offsets.items l.placed.bytes.items;
  spent : l.limit ≤ l.fn.limit;
}

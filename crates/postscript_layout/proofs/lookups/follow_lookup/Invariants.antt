use Rattle.std.proofs.Common.{◌+◌, ◌≤◌}
use Rattle.postscript_layout.specs.Numbers.{word}
use Rattle.postscript_layout.specs.Substitutions.{BySubtable, part_of, offset_of, type_of}
use Rattle.postscript_layout.specs.Steps.{Below, Follows}
use Rattle.postscript_layout.specs.Costs.{part_cost, total}
use Rattle.postscript_layout.proofs.lookups.follow_lookup.Given as goal

abbrev pub invariant-loop-j : goal.invariant-loop-j
invariant-loop-j l = record {
  follows : Follows (Below (λ j. BySubtable l.gsub (type_of l.gsub (word l.gsub l.lookup) (part_of l.gsub l.lookup (l.lookup + 6) j)) (offset_of l.gsub (word l.gsub l.lookup) (part_of l.gsub l.lookup (l.lookup + 6) j))) l.j) l.fn.set l.set;
  spent : l.limit ≤ l.fn.limit;
  within : l.fn.limit ≤ l.limit + total (λ j. 1 + part_cost l.gsub (word l.gsub l.lookup) (part_of l.gsub l.lookup (l.lookup + 6) j)) l.j;
}

use Rattle.std.proofs.Common.{◌+◌, ◌≤◌}
use Rattle.postscript_layout.specs.Substitutions.{part_of}
use Rattle.postscript_layout.specs.Steps.{Below, Follows, IsHeld, joins}
use Rattle.postscript_layout.specs.Costs.{ligature_cost, total}
use Rattle.postscript_layout.proofs.substitutions.join_each.Given as goal

abbrev pub invariant-loop-k : goal.invariant-loop-k
invariant-loop-k l = record {
  follows : Follows (Below (λ k. joins l.gsub l.glyph (part_of l.gsub l.offset (l.offset + 2) k)) l.k) l.fn.set l.set;
  held : IsHeld l.set l.glyph;
  spent : l.limit ≤ l.fn.limit;
  within : l.fn.limit ≤ l.limit + total (λ k. ligature_cost l.gsub (part_of l.gsub l.offset (l.offset + 2) k)) l.k;
}

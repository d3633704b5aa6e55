use Rattle.std.proofs.Common.{◌+◌, ◌*◌, ◌≤◌}
use Rattle.postscript_layout.specs.Numbers.{word}
use Rattle.postscript_layout.specs.Substitutions.{SubstitutesGlyph}
use Rattle.postscript_layout.specs.Steps.{Below, Follows}
use Rattle.postscript_layout.specs.Costs.{glyph_cost, total}
use Rattle.postscript_layout.proofs.lookups.follow_list.Given as goal

abbrev pub invariant-loop-i : goal.invariant-loop-i
invariant-loop-i l = record {
  follows : Follows (Below (λ i. SubstitutesGlyph l.gsub l.kind l.subtable i (word l.gsub (l.coverage + 4 + i * 2))) l.i) l.fn.set l.set;
  spent : l.limit ≤ l.fn.limit;
  within : l.fn.limit ≤ l.limit + total (λ i. glyph_cost l.gsub l.kind l.subtable i) l.i;
}

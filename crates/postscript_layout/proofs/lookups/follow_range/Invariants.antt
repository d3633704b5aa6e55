use Rattle.std.proofs.Common.{◌+◌, ◌≤◌}
use Rattle.postscript_layout.specs.Numbers.{word}
use Rattle.postscript_layout.specs.Substitutions.{SubstitutesGlyph}
use Rattle.postscript_layout.specs.Steps.{Below, Follows}
use Rattle.postscript_layout.specs.Costs.{glyph_cost, total}
use Rattle.postscript_layout.proofs.lookups.follow_range.Given as goal

abbrev pub invariant-loop-n : goal.invariant-loop-n
invariant-loop-n l = record {
  follows : Follows (Below (λ n. SubstitutesGlyph l.gsub l.kind l.subtable (word l.gsub (l.range + 4) + n) (word l.gsub l.range + n)) l.n) l.fn.set l.set;
  spent : l.limit ≤ l.fn.limit;
  within : l.fn.limit ≤ l.limit + total (λ n. glyph_cost l.gsub l.kind l.subtable (word l.gsub (l.range + 4) + n)) l.n;
}

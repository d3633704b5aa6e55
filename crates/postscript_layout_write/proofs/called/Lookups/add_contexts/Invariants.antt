use Rattle.std.proofs.Common.{◌<◌, ◌≤◌, ℕ}
use Rattle.postscript_layout_write.specs.Calls.{CallsIn}
use Rattle.postscript_layout_write.specs.Reaching.{AddsOnly}
use Rattle.postscript_layout_write.specs.Rules.{part_at}
use Rattle.postscript_layout_write.proofs.called.Lookups.add_contexts.Given as goal

abbrev pub invariant-loop-j : goal.invariant-loop-j
invariant-loop-j l = record {
  added : AddsOnly (λ m. (j : ℕ) × (j < l.j) × CallsIn l.source.gsub.now l.source.kept.now l.kind (part_at l.source.gsub.now l.lookup l.kind j) m) l.fn.self.lookups.items l.self.lookups.items;
  spent : l.limit ≤ l.fn.limit;
}

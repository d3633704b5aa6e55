use Rattle.std.proofs.Common.{◌<◌, ◌≤◌, ℕ}
use Rattle.postscript_layout_write.specs.Calls.{CallsInSet}
use Rattle.postscript_layout_write.specs.ContextRules.{set_of}
use Rattle.postscript_layout_write.specs.Reaching.{AddsOnly}
use Rattle.postscript_layout_write.proofs.called.Lookups.add_sets.Given as goal

abbrev pub invariant-loop-i : goal.invariant-loop-i
invariant-loop-i l = record {
  added : AddsOnly (λ m. (i : ℕ) × (i < l.i) × CallsInSet l.source.gsub.now l.source.kept.now l.kind l.subtable i (set_of l.source.gsub.now l.kind l.subtable i) m) l.fn.self.lookups.items l.self.lookups.items;
  spent : l.limit ≤ l.fn.limit;
}

use Rattle.std.proofs.Common.{◌≡◌, ◌+◌, ◌*◌, ◌<◌, ◌≤◌, ℕ}
use Rattle.postscript_layout.specs.Numbers.{word}
use Rattle.postscript_layout_write.specs.Reaching.{AddsOnly}
use Rattle.postscript_layout_write.proofs.called.Lookups.add_named.Given as goal

abbrev pub invariant-loop-r : goal.invariant-loop-r
invariant-loop-r l = record {
  added : AddsOnly (λ m. (r : ℕ) × (r < l.r) × (word l.gsub (l.parts.actions_at + r * 4 + 2) ≡ m)) l.fn.self.lookups.items l.self.lookups.items;
  spent : l.limit ≤ l.fn.limit;
}

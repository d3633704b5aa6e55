use Rattle.std.proofs.Common.{◌≡◌, ℕ, ◌+◌, ◌<◌, ◌≤◌}
use Rattle.postscript_base.specs.Index.{offset_at}
use Rattle.postscript_base.proofs.index.IndexView.are_in_order.Given as goal

-- the offsets so far do not fall, and the last one is low
abbrev pub invariant-loop-i : goal.invariant-loop-i
invariant-loop-i l =
    (offset_at l.self.bytes.now l.self.start l.self.size 0 ≡ 1) × (l.low ≡ offset_at l.self.bytes.now l.self.start l.self.size l.i)
    × ((k : ℕ) → k < l.i → offset_at l.self.bytes.now l.self.start l.self.size k ≤ offset_at l.self.bytes.now l.self.start l.self.size
    (k + 1))

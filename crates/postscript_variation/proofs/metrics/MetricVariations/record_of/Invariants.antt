use Rattle.std.proofs.Common.{◌≢◌, ℕ, ◌<◌}
use Rattle.postscript_variation.specs.Metrics.{tag_at}
use Rattle.postscript_variation.proofs.metrics.MetricVariations.record_of.Given as goal

-- no record before this one is of the tag
abbrev pub invariant-loop-i : goal.invariant-loop-i
invariant-loop-i l = (k : ℕ) → k < l.i → tag_at l.self.bytes.now l.self.size k ≢ l.tag

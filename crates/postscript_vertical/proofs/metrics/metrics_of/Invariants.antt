use Rattle.std.proofs.Common.{◌≡◌, ℕ, ◌+◌, ◌*◌, ◌<◌, get_or, length}
use Rattle.postscript_vertical.specs.Metrics.{advance_of, bearing_of}
use Rattle.postscript_vertical.specs.Numbers.{word}
use Rattle.postscript_vertical.proofs.metrics.metrics_of.Given as goal

-- the metrics so far
abbrev pub invariant-loop-origin : goal.invariant-loop-origin
invariant-loop-origin l = record {
  size : length l.new.items ≡ l.origin-index * 4;
  advances : (i : ℕ) → i < l.origin-index → word l.new.items (i * 4) ≡ advance_of l.vmtx l.metrics (get_or l.origins i 0);
  bearings : (i : ℕ) → i < l.origin-index → word l.new.items (i * 4 + 2) ≡ bearing_of l.vmtx l.metrics (get_or l.origins i 0);
}

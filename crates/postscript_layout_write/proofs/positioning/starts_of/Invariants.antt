use Rattle.std.proofs.Common.{◌≡◌, ◌+◌, ◌-◌, ◌<◌, ℕ, length}
use Rattle.std.specs.Prelude.{slice_index}
use Rattle.postscript_layout_write.proofs.positioning.starts_of.Given as goal

abbrev pub invariant-loop-i : goal.invariant-loop-i
invariant-loop-i l = record {
  many : length l.offsets.items ≡ l.i;
  each : (i k : ℕ) → i < l.i → i + k + 1 ≡ length l.distances → slice_index l.offsets.items i ≡ l.size - slice_index l.distances k;
}

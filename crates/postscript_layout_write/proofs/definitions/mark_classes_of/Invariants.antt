use Rattle.std.proofs.Common.{◌≡◌, ◌<◌, ◌≤◌, ℕ, length}
use Rattle.std.specs.Prelude.{slice_index}
use Rattle.postscript_layout_write.specs.Definitions.{mark_class}
use Rattle.postscript_layout_write.proofs.definitions.mark_classes_of.Given as goal

abbrev pub invariant-loop-k : goal.invariant-loop-k
invariant-loop-k l = record {
  many : length l.classes.items ≡ l.k;
  small : (k : ℕ) → k < l.k → slice_index l.classes.items k < 65536;
  each : (k : ℕ) → k < l.k → slice_index l.classes.items k ≡ mark_class l.gdef (slice_index l.kept k);
  spent : l.limit ≤ l.fn.limit;
}

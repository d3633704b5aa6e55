use Rattle.std.proofs.Common.{◌≡◌, ◌≤◌, length}
use Rattle.std.specs.Prelude.{◌==◌, filter}
use Rattle.std.specs.List.{list_any, range_with_len}
use Rattle.postscript_layout.specs.Features.{tag_of}
use Rattle.postscript_layout_write.proofs.features.chosen_features.Given as goal

abbrev pub invariant-loop-i : goal.invariant-loop-i
invariant-loop-i l = record {
  kept : l.kept.items ≡ filter (λ i. list_any (λ tag. tag == tag_of l.table i) l.tags) (range_with_len 0 l.i);
  few : length l.kept.items ≤ l.i;
  spent : l.limit ≤ l.fn.limit;
}

use Rattle.std.proofs.Common.{◌≡◌, ◌≤◌}
use Rattle.postscript_layout_write.specs.Labels.{labels_below}
use Rattle.postscript_layout_write.proofs.labels.role_labels.Given as goal

abbrev pub invariant-loop-k : goal.invariant-loop-k
invariant-loop-k l = record {
  labels : l.labels.items ≡ labels_below l.gsub l.kept l.kind l.subtable l.role l.k;
  spent : l.limit ≤ l.fn.limit;
}

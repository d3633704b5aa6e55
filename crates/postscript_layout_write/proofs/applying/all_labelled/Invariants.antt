use Rattle.std.proofs.Common.{◌≡◌, ◌≤◌}
use Rattle.postscript_layout_write.specs.Labels.{having_at}
use Rattle.postscript_layout_write.specs.Sequences.{all_some}
use Rattle.postscript_layout_write.proofs.applying.all_labelled.Given as goal

abbrev pub invariant-loop-p : goal.invariant-loop-p
invariant-loop-p l = record {
  exact : l.all ≡ all_some (having_at l.gsub l.labels l.array l.p);
  spent : l.limit ≤ l.fn.limit;
}

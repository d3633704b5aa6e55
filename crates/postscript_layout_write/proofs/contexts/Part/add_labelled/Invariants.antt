use Rattle.std.proofs.Common.{◌≤◌}
use Rattle.postscript_layout_write.specs.Coverages.{AddsSets}
use Rattle.postscript_layout_write.specs.Labels.{having_at}
use Rattle.postscript_layout_write.proofs.contexts.Part.add_labelled.Given as goal

abbrev pub invariant-loop-p : goal.invariant-loop-p
invariant-loop-p l = record {
  added : AddsSets (having_at l.gsub l.labels l.array l.p) l.fn.self l.fn.tables.bytes.items l.self l.tables.bytes.items;
  spent : l.limit ≤ l.fn.limit;
}

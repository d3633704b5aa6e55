use Rattle.std.proofs.Common.{◌≡◌, ◌<◌, ◌≤◌, ℕ, length}
use Rattle.std.specs.Prelude.{slice_index_or}
use Rattle.postscript_layout_write.specs.Attaching.{cell_of, no_cell}
use Rattle.postscript_layout_write.specs.Marks.{anchor_in}
use Rattle.postscript_layout_write.proofs.anchors.base_row.Given as goal

abbrev pub invariant-loop-class : goal.invariant-loop-class
invariant-loop-class l = record {
  many : length l.row.items ≡ l.class;
  each : (j : ℕ) → j < l.class → slice_index_or l.row.items j no_cell ≡ cell_of (anchor_in l.gpos l.array l.classes l.i j);
  spent : l.limit ≤ l.fn.limit;
}

use Rattle.std.proofs.Common.{◌≡◌, ◌<◌, ℕ, length}
use Rattle.std.specs.Prelude.{slice_index}
use Rattle.postscript_layout_write.specs.Lines.{cell}
use Rattle.postscript_layout_write.proofs.class_pairs.column_of.Given as goal

abbrev pub invariant-loop-class : goal.invariant-loop-class
invariant-loop-class l = record {
  long : length l.column.items ≡ l.class;
  each : (r : ℕ) → r < l.class → slice_index l.column.items r ≡ cell l.rows.cells.items l.rows.width r l.y;
}

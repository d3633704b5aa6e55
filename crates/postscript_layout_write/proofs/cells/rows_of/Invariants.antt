use Rattle.std.proofs.Common.{◌≤◌}
use Rattle.std.specs.Prelude.{slice_index}
use Rattle.postscript_layout_write.specs.Attaching.{AreRows, classes_of, row_of, width_of}
use Rattle.postscript_layout_write.proofs.cells.rows_of.Given as goal

abbrev pub invariant-loop-k : goal.invariant-loop-k
invariant-loop-k l = record {
  rows : AreRows (width_of l.side (classes_of l.gpos l.subtable)) (λ x. row_of l.gpos l.subtable l.side (slice_index l.kept x)) l.k l.rows.glyphs.items l.rows.cells.items;
  spent : l.limit ≤ l.fn.limit;
}

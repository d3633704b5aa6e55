use Rattle.std.proofs.Common.{◌≡◌, ◌<◌, ◌≤◌, ◌/◌, ◌%◌, ℕ, length}
use Rattle.std.specs.Prelude.{slice_index_or}
use Rattle.postscript_layout_write.specs.Attaching.{cell_of, no_cell}
use Rattle.postscript_layout_write.specs.Marks.{anchor_in}
use Rattle.postscript_layout_write.proofs.ligatures.cells_of.Given as goal

abbrev pub invariant-loop-q : goal.invariant-loop-q
invariant-loop-q l = record {
  many : length l.cells.items ≡ l.q;
  each : (q : ℕ) → q < l.q → slice_index_or l.cells.items q no_cell ≡ cell_of (anchor_in l.gpos l.ligature l.classes (q / l.classes) (q % l.classes));
  spent : l.limit ≤ l.fn.limit;
}

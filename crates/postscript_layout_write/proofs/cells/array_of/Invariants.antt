use Rattle.std.proofs.Common.{◌≡◌, ◌+◌, ◌*◌, ◌<◌, ℕ, length}
use Rattle.std.specs.Prelude.{slice_index, slice_index_or}
use Rattle.postscript_layout_write.specs.Attaching.{IsCell, no_cell}
use Rattle.postscript_layout_write.proofs.cells.array_of.Given as goal

abbrev pub invariant-loop-cell : goal.invariant-loop-cell
invariant-loop-cell l = record {
  many : length l.numbers.items ≡ l.cell-index;
  each : (k : ℕ) → k < l.cell-index → IsCell (l.lead + (2 + length l.cells * 2)) l.pool.bytes.items (slice_index_or l.cells k no_cell) (slice_index l.numbers.items k);
}

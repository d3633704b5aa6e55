use Rattle.std.proofs.Common.{◌≡◌, ◌≤◌}
use Rattle.postscript_layout_write.specs.LeftPositions.{left_by}
use Rattle.postscript_layout_write.proofs.left_positions.left_by.Given as goal

abbrev pub invariant-loop-i : goal.invariant-loop-i
invariant-loop-i l = record {
  left : l.left.items ≡ left_by l.scope l.gpos l.i;
  spent : l.limit ≤ l.fn.limit;
}

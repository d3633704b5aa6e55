use Rattle.std.proofs.Common.{◌≡◌, ◌+◌, ◌*◌, ◌≤◌, None, Some, if◌then◌else◌}
use Rattle.postscript_layout_write.specs.First.{first_some}
use Rattle.postscript_layout_write.specs.Ranges.{in_range}
use Rattle.postscript_layout_write.proofs.ranges.range_of.Given as goal

abbrev pub invariant-loop-r : goal.invariant-loop-r
invariant-loop-r l = record {
  before : first_some (λ r. if in_range l.table (l.ranges + 4 + r * 6) l.glyph then Some (l.ranges + 4 + r * 6) else None) l.r ≡ None;
  spent : l.limit ≤ l.fn.limit;
}

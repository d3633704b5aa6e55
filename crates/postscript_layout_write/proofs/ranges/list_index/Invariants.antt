use Rattle.std.proofs.Common.{◌≡◌, ◌+◌, ◌*◌, ◌==◌, ◌≤◌, None, Some, if◌then◌else◌}
use Rattle.postscript_layout.specs.Numbers.{word}
use Rattle.postscript_layout_write.specs.First.{first_some}
use Rattle.postscript_layout_write.proofs.ranges.list_index.Given as goal

abbrev pub invariant-loop-i : goal.invariant-loop-i
invariant-loop-i l = record {
  before : first_some (λ i. if word l.table (l.coverage + 4 + i * 2) == l.glyph then Some i else None) l.i ≡ None;
  spent : l.limit ≤ l.fn.limit;
}

use Rattle.std.proofs.Common.{◌≡◌, ◌+◌, ◌*◌, ◌==◌, ◌≤◌, None, Some, if◌then◌else◌}
use Rattle.postscript_layout.specs.Numbers.{word}
use Rattle.postscript_layout_write.specs.First.{first_some}
use Rattle.postscript_layout_write.proofs.pairs.listed_pair.Given as goal

abbrev pub invariant-loop-r : goal.invariant-loop-r
invariant-loop-r l = record {
  before : first_some (λ r. if word l.gpos (l.set + 2 + r * l.size) == l.second then Some (l.set + 2 + r * l.size + 2) else None) l.r ≡ None;
  spent : l.limit ≤ l.fn.limit;
}

use Rattle.std.proofs.Common.{◌≡◌, ◌≤◌, None}
use Rattle.postscript_layout_write.specs.First.{first_some}
use Rattle.postscript_layout_write.specs.Pairs.{pairs_at}
use Rattle.postscript_layout_write.proofs.typed.has_no_pairs.Given as goal

abbrev pub invariant-loop-j : goal.invariant-loop-j
invariant-loop-j l = record {
  before : first_some (λ j. pairs_at l.gpos l.lookup j) l.j ≡ None;
  spent : l.limit ≤ l.fn.limit;
}

use Rattle.std.proofs.Common.{◌≡◌, ◌≤◌, None}
use Rattle.postscript_layout_write.specs.First.{first_some}
use Rattle.postscript_layout_write.specs.Pairs.{by_part, pairs_at}
use Rattle.postscript_layout_write.proofs.lookups.by_lookup.Given as goal

abbrev pub invariant-loop-j : goal.invariant-loop-j
invariant-loop-j l = record {
  before : first_some (λ j. by_part l.gpos (pairs_at l.gpos l.lookup j) l.first l.second) l.j ≡ None;
  spent : l.limit ≤ l.fn.limit;
}

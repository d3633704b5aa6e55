use Rattle.std.proofs.Common.{◌≡◌, ◌<◌, ◌≤◌, None, ℕ, length}
use Rattle.std.specs.Prelude.{slice_index_or}
use Rattle.postscript_layout_write.specs.Pairs.{index_at, pairs_at}
use Rattle.postscript_layout_write.proofs.lookups.indices_of.Given as goal

abbrev pub invariant-loop-j : goal.invariant-loop-j
invariant-loop-j l = record {
  many : length l.indices.items ≡ l.j;
  each : (j : ℕ) → j < l.j → slice_index_or l.indices.items j None ≡ index_at l.gpos (pairs_at l.gpos l.lookup j) l.first;
  spent : l.limit ≤ l.fn.limit;
}

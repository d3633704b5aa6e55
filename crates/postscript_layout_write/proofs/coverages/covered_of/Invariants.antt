use Rattle.std.proofs.Common.{◌≡◌}
use Rattle.std.specs.Prelude.{filter, slice_index}
use Rattle.std.specs.List.{range_with_len}
use Rattle.postscript_layout_write.specs.Sequences.{covers}
use Rattle.postscript_layout_write.proofs.coverages.covered_of.Given as goal

abbrev pub invariant-loop-k : goal.invariant-loop-k
invariant-loop-k l = l.numbers.items ≡ filter (λ k. covers l.table l.coverage (slice_index l.kept k)) (range_with_len 0 l.k)

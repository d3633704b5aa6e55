use Rattle.std.proofs.Common.{◌≡◌}
use Rattle.std.specs.Prelude.{None, filter, slice_index_or}
use Rattle.std.specs.List.{range_with_len}
use Rattle.postscript_layout_write.specs.ContextRules.{is_label}
use Rattle.postscript_layout_write.proofs.labels.with_label.Given as goal

abbrev pub invariant-loop-k : goal.invariant-loop-k
invariant-loop-k l = l.numbers.items ≡ filter (λ k. is_label (slice_index_or l.labels k None) l.number) (range_with_len 0 l.k)

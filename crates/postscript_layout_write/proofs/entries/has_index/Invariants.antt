use Rattle.std.proofs.Common.{◌≡◌, ◌<◌, ℕ, None}
use Rattle.std.specs.Prelude.{slice_index_or}
use Rattle.postscript_layout_write.proofs.entries.has_index.Given as goal

abbrev pub invariant-loop-index : goal.invariant-loop-index
invariant-loop-index l = (j : ℕ) → j < l.index-index → slice_index_or l.indices j None ≡ None

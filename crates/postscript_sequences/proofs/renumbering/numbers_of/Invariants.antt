use Rattle.std.proofs.Common.{◌≡◌, ◌<◌, ◌==◌, ℕ, None, Some, length}
use Rattle.std.specs.Prelude.{slice_index, slice_index_or, if◌then◌else◌}
use Rattle.postscript_sequences.specs.Numbers.{first_some}
use Rattle.postscript_sequences.proofs.renumbering.numbers_of.Given as goal

abbrev pub invariant-loop-k : goal.invariant-loop-k
invariant-loop-k l = record {
  many : length l.numbers.items ≡ 65536;
  each : (g : ℕ) → g < 65536 → slice_index_or l.numbers.items g None ≡ first_some (λ k. if slice_index l.glyphs k == g then Some k else None) l.k;
}

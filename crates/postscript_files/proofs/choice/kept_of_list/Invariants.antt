use Rattle.std.proofs.Common.{◌≡◌, ◌++◌, ◌<◌, ℕ, drop, get_or}
use Rattle.postscript_files.specs.Choices.{filtered}
use Rattle.postscript_files.proofs.choice.kept_of_list.Given as goal

abbrev pub invariant-loop-pair : goal.invariant-loop-pair
invariant-loop-pair l = record {
  so_far : l.pairs.items ++ filtered l.chars l.glyphs (drop l.pair-index l.all) ≡ filtered l.chars l.glyphs l.all;
  low : (k : ℕ) (d : ℕ × ℕ) → k < l.pair-index → (get_or l.all k d).1 < 65536;
}

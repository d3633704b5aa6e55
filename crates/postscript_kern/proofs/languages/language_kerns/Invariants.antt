use Rattle.std.proofs.Common.{ℕ, ◌+◌, ◌*◌, ◌<◌, ◌≤◌}
use Rattle.postscript_kern.specs.Languages.{IsKernFeature}
use Rattle.postscript_kern.specs.Numbers.{word}
use Rattle.postscript_kern.proofs.languages.language_kerns.Given as goal

-- none of the feature indices so far is that of a feature `kern`
abbrev pub invariant-loop-k : goal.invariant-loop-k
invariant-loop-k l = record {
  none : (k : ℕ) → k < l.k → IsKernFeature l.gpos (word l.gpos (l.language + 6 + k * 2)) → ⊥;
  spends : l.limit ≤ l.fn.limit;
  most : l.fn.limit ≤ l.limit + l.k;
}

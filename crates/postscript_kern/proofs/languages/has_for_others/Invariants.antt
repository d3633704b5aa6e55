use Rattle.std.proofs.Common.{ℕ, ◌+◌, ◌<◌, ◌≤◌}
use Rattle.postscript_kern.specs.Languages.{IsForOthers, tag_of}
use Rattle.postscript_kern.specs.Numbers.{word}
use Rattle.postscript_kern.proofs.languages.has_for_others.Given as goal

-- none of the scripts so far is one of these
abbrev pub invariant-loop-i : goal.invariant-loop-i
invariant-loop-i l = record {
  none : (i : ℕ) → i < l.i → IsForOthers (tag_of l.gpos (word l.gpos 4 + 2) i) → ⊥;
  spends : l.limit ≤ l.fn.limit;
  most : l.fn.limit ≤ l.limit + l.i;
}

use Rattle.std.proofs.Common.{◌≡◌, ℕ, ◌<◌}
use Rattle.postscript_view.specs.Encoding.{supplement_code}
use Rattle.postscript_view.proofs.encoding.supplement.Given as goal

-- none of the supplements so far has the code
abbrev pub invariant-loop-s : goal.invariant-loop-s
invariant-loop-s l = (other : ℕ) → other < l.s → supplement_code l.supplements other ≡ l.code → ⊥

use Rattle.std.proofs.Common.{◌≡◌, ℕ, ◌<◌}
use Rattle.postscript_base.specs.Index.{number_at}
use Rattle.postscript_view.proofs.encoding.glyph_in_list.Given as goal

-- none of the codes so far is the one
abbrev pub invariant-loop-place : goal.invariant-loop-place
invariant-loop-place l = (other : ℕ) → other < l.place → number_at l.codes other 1 ≡ l.code → ⊥

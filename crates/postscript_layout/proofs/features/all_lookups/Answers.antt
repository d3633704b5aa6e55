use Rattle.std.proofs.Common.{◌∙◌, ap, sym, ℕ, List, ◌++◌, ◌∷◌, []}
use Rattle.postscript_layout.proofs.Named.{range-more}
use Rattle.postscript_layout.proofs.features.all_lookups.Goals as goal

pub loop-i-preserved : goal.loop-i-preserved
loop-i-preserved c =
    c.in_ok-push.ensures.items ∙ ap (λ (xs : List ℕ). xs ++ c.loop-i.i ∷ []) c.loop-i.invariant ∙ sym (range-more c.loop-i.i)

use Rattle.std.proofs.Common.{◌∙◌, ap, subst, ℕ, ◌+◌, ◌<◌}
use Rattle.postscript_layout.specs.Numbers.{word}
use Rattle.postscript_layout.specs.Steps.{Follows}
use Rattle.postscript_layout.specs.Substitutions.{ByLookup, part_of}
use Rattle.postscript_layout.proofs.Cases.{follows-index}
use Rattle.postscript_layout.proofs.lookups.follow_index.Goals as goal

pub returns-clause-done : goal.returns-clause-done
returns-clause-done c =
    let gsub = c.args.gsub.now in
    let i = c.args.i in
    let a = c.args.set.now in
    let b = c.follow_lookup.new.set in
    follows-index gsub i a b
    (subst (λ (n : ℕ). i < n) (c.word.ensures.exact ∙ ap (word gsub) c.word-list.ensures.exact) c.if-i-word.false)
    (subst (λ (l : ℕ). Follows (ByLookup gsub (part_of gsub l (l + 2) i)) a b) c.word-list.ensures.exact
    (subst (λ (p : ℕ). Follows (ByLookup gsub p) a b) c.part_of-lookup.ensures.exact c.in_ok-follow_lookup.ensures.done))

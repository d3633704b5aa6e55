use Rattle.std.proofs.Common.{subst, ℕ, ◌+◌, [], ◌∷◌}
use Rattle.postscript_layout.specs.Numbers.{words}
use Rattle.postscript_layout.specs.Steps.{Follows, Makes}
use Rattle.postscript_layout.proofs.Following.{follows-makes, one-held}
use Rattle.postscript_layout.proofs.substitutions.give_several.Goals as goal

pub returns-clause-done : goal.returns-clause-done
returns-clause-done c =
    let a = c.args.set.now in
    let b = c.hold_words.new.self in
    subst (λ (n : ℕ). Follows (Makes (c.args.glyph ∷ []) (words c.args.gsub.now (c.args.offset + 2) n)) a b) c.word-count.ensures.exact
    (follows-makes (c.args.glyph ∷ []) (words c.args.gsub.now (c.args.offset + 2) c.word-count.result) a b
    (one-held a c.args.glyph c.requires.held) c.in_ok-hold_words.ensures.done)

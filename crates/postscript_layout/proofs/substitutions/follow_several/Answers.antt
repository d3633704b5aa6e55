use Rattle.std.proofs.Common.{subst, ℕ, ◌+◌, [], ◌∷◌}
use Rattle.postscript_layout.specs.Numbers.{word, words}
use Rattle.postscript_layout.specs.Steps.{Follows, Makes}
use Rattle.postscript_layout.proofs.Cases.{follows-several}
use Rattle.postscript_layout.proofs.substitutions.follow_several.Goals as goal

pub returns-clause-done : goal.returns-clause-done
returns-clause-done c =
    let gsub = c.args.gsub.now in
    let a = c.args.set.now in
    let b = c.give_several.new.set in
    let there = c.has_offset.ensures.yes c.if-not-has_offset.false in
    follows-several gsub c.args.kind c.args.subtable c.args.i c.args.glyph a b c.requires.kind there.0 there.1
    (subst (λ (p : ℕ). Follows (Makes (c.args.glyph ∷ []) (words gsub (p + 2) (word gsub p))) a b) c.part_of-offset.ensures.exact
    c.in_ok-give_several.ensures.done)

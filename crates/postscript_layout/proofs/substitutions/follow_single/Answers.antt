use Rattle.std.proofs.Common.{◌∙◌, sym, subst, ℕ, ◌+◌, ◌%◌, ◌<◌, [], ◌∷◌}
use Rattle.postscript_layout.specs.Steps.{Follows, Makes}
use Rattle.postscript_layout.proofs.Cases.{follows-delta, follows-glyph}
use Rattle.postscript_layout.proofs.substitutions.follow_single.Goals as goal

pub returns-in-1 : goal.returns-in-1
returns-in-1 c =
    let a = c.args.set.now in
    let b = c.give.new.set in
    let glyph = c.args.glyph in
    follows-delta c.args.gsub.now c.args.subtable c.args.i glyph a b (sym c.word.ensures.exact ∙ c.in-1.is)
    (subst (λ (w : ℕ). Follows (Makes (glyph ∷ []) ((glyph + w) % 65536 ∷ [])) a b) c.word-in-1.ensures.exact c.give.ensures)

pub returns-then-i-word : goal.returns-then-i-word
returns-then-i-word c =
    let a = c.args.set.now in
    let b = c.give-then-i-word.new.set in
    let glyph = c.args.glyph in
    follows-glyph c.args.gsub.now c.args.subtable c.args.i glyph a b (sym c.word.ensures.exact ∙ c.in-2.is)
    (subst (λ (w : ℕ). c.args.i < w) c.word-in-2.ensures.exact c.if-i-word.true)
    (subst (λ (w : ℕ). Follows (Makes (glyph ∷ []) (w ∷ [])) a b) c.word-then-i-word.ensures.exact c.give-then-i-word.ensures)

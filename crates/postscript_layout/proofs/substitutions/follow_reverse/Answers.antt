use Rattle.std.proofs.Common.{◌∙◌, sym, subst, ℕ, ◌+◌, ◌*◌, ◌<◌, [], ◌∷◌}
use Rattle.postscript_layout.specs.Numbers.{word}
use Rattle.postscript_layout.specs.Steps.{Follows, Makes}
use Rattle.postscript_layout.proofs.Cases.{follows-reverse}
use Rattle.postscript_layout.proofs.substitutions.follow_reverse.Goals as goal

pub returns-then-i-word : goal.returns-then-i-word
returns-then-i-word c =
    let gsub = c.args.gsub.now in
    let a = c.args.set.now in
    let b = c.give.new.set in
    let glyph = c.args.glyph in
    let i = c.args.i in
    let offset = c.reverse_offset-offset.ensures.exact in
    follows-reverse gsub c.args.subtable i glyph a b (sym c.word.ensures.exact ∙ c.if-word-eq1.true)
    (subst (λ (p : ℕ). i < word gsub p) offset (subst (λ (w : ℕ). i < w) c.word-then-word-eq1.ensures.exact c.if-i-word.true))
    (subst (λ (p : ℕ). Follows (Makes (glyph ∷ []) (word gsub (p + 2 + i * 2) ∷ [])) a b) offset
    (subst (λ (w : ℕ). Follows (Makes (glyph ∷ []) (w ∷ [])) a b) c.word-then-i-word.ensures.exact c.give.ensures))

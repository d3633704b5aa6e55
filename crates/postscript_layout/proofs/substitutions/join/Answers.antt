use Rattle.std.proofs.Common.{◌≡◌, ◌∙◌, sym, subst, ap, ℕ, ◌+◌, ◌-◌, List, [], ◌∷◌}
use Rattle.std.specs.List.{All}
use Rattle.std.proofs.lemmas.List.Elements.{All-cons, All-tail}
use Rattle.postscript_layout.specs.Numbers.{word, words}
use Rattle.postscript_layout.specs.Steps.{HoldsMore, IsHeld, joins}
use Rattle.postscript_layout.proofs.Following.{follows-makes, follows-unmade}
use Rattle.postscript_layout.proofs.substitutions.join.Goals as goal

pub returns-then-not-all-clause-done : goal.returns-then-not-all-clause-done
returns-then-not-all-clause-done c =
    let gsub = c.args.gsub.now in
    let offset = c.args.offset in
    let a = c.args.set.now in
    let many : c.saturating_sub-components.result ≡ word gsub (offset + 2) - 1 =
    c.saturating_sub-components.ensures ∙ ap (λ (n : ℕ). n - 1) c.word.ensures.exact in
    follows-unmade (joins gsub c.args.glyph offset) a (λ ins outs is h. c.in_ok-all.ensures.no c.if-not-all.true
    (subst (λ (n : ℕ). All (IsHeld a) (words gsub (offset + 4) n)) (sym many)
    (All-tail (IsHeld a) c.args.glyph (words gsub (offset + 4) (word gsub (offset + 2) - 1)) (subst (λ (xs : List ℕ). All (IsHeld a) xs) is.0 h))))

pub returns-clause-done : goal.returns-clause-done
returns-clause-done c =
    let gsub = c.args.gsub.now in
    let offset = c.args.offset in
    let a = c.args.set.now in
    let b = c.hold.new.self in
    let many : c.saturating_sub-components.result ≡ word gsub (offset + 2) - 1 =
    c.saturating_sub-components.ensures ∙ ap (λ (n : ℕ). n - 1) c.word.ensures.exact in
    let components = words gsub (offset + 4) (word gsub (offset + 2) - 1) in
    follows-makes (c.args.glyph ∷ components) (word gsub offset ∷ []) a b
    (All-cons (IsHeld a) c.args.glyph components c.requires.held
    (subst (λ (n : ℕ). All (IsHeld a) (words gsub (offset + 4) n)) many (c.in_ok-all.ensures.yes c.if-not-all.false)))
    (subst (λ (w : ℕ). HoldsMore a (w ∷ []) b) c.word-ligature.ensures.exact c.hold.ensures)

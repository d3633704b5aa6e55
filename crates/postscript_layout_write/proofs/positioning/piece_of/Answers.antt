use Rattle.std.proofs.Common.{◌≡◌, ◌∙◌, ◌+◌, sym, ℕ, ap, subst, [], false}
use Rattle.postscript_layout.specs.Numbers.{word}
use Rattle.postscript_layout_write.specs.Coverages.{AddsChained}
use Rattle.postscript_layout_write.specs.Flags.{set_of}
use Rattle.postscript_layout_write.specs.Marks.{type_at}
use Rattle.postscript_layout_write.specs.Pieces.{IsPiece}
use Rattle.postscript_layout_write.specs.PositionContexts.{contexts_by}
use Rattle.postscript_layout_write.specs.Scopes.{new_flag}
use Rattle.postscript_layout_write.specs.Typed.{AddsTyped}
use Rattle.postscript_layout_write.proofs.Placing.{contexts-made, pairs-made, typed-made}
use Rattle.postscript_layout_write.proofs.positioning.piece_of.Goals as goal

pub returns-clause-done : goal.returns-clause-done
returns-clause-done c =
    let gpos = c.args.gpos.now in
    let flag : c.new_flag-flag.result ≡ new_flag c.args.scope (word gpos (c.args.lookup + 2)) = c.new_flag-flag.ensures.exact ∙ ap (new_flag c.args.scope) c.word.ensures.exact in
    let piece = c.in_ok-piece-3.piece in
    let subtables = c.in_ok-subtables.subtables in
    pairs-made c.args.scope gpos c.args.kept.now c.args.lookup c.args.distance subtables piece
    (sym c.in_ok-typed.ensures.exact ∙ c.if-typed.false) (sym c.in_ok-contextual.ensures.exact ∙ c.if-contextual.false) c.in_ok-subtables.ensures.exact
    (subst (λ (n : ℕ). IsPiece n (set_of gpos c.args.lookup) c.args.distance subtables piece) flag c.in_ok-piece-3.ensures.made)

pub returns-then-typed-clause-done : goal.returns-then-typed-clause-done
returns-then-typed-clause-done c =
    let gpos = c.args.gpos.now in
    let kept = c.args.kept.now in
    let piece = c.in_ok-piece.piece in
    let flag : c.new_flag-flag.result ≡ new_flag c.args.scope (word gpos (c.args.lookup + 2)) = c.new_flag-flag.ensures.exact ∙ ap (new_flag c.args.scope) c.word.ensures.exact in
    typed-made c.args.scope gpos kept c.args.lookup c.args.distance piece.lookup.items piece.subtables.items (sym c.in_ok-typed.ensures.exact ∙ c.if-typed.true)
    (subst (λ (n : ℕ). AddsTyped gpos kept c.args.lookup n [] piece.lookup.items) flag c.in_ok-piece.ensures.done)

pub returns-then-contextual-clause-done : goal.returns-then-contextual-clause-done
returns-then-contextual-clause-done c =
    let gpos = c.args.gpos.now in
    let kept = c.args.kept.now in
    let lookup = c.args.lookup in
    let piece = c.in_ok-piece-2.piece in
    let flag : c.new_flag-flag.result ≡ new_flag c.args.scope (word gpos (lookup + 2)) = c.new_flag-flag.ensures.exact ∙ ap (new_flag c.args.scope) c.word.ensures.exact in
    contexts-made c.args.scope gpos kept lookup c.args.distance piece.lookup.items piece.subtables.items (sym c.in_ok-contextual.ensures.exact ∙ c.if-contextual.true)
    (subst (λ (n : ℕ). AddsChained false 8 n (set_of gpos lookup) (contexts_by gpos kept lookup (type_at gpos lookup)) [] piece.lookup.items) flag c.in_ok-piece-2.ensures.done)

use Rattle.std.proofs.Common.{◌∙◌, ap, subst, inl, ℕ, List, ◌++◌, length}
use Rattle.postscript_write.specs.Closure.{Grow}
use Rattle.postscript_write.specs.Steps.{IsNotChosen}
use Rattle.postscript_write.proofs.Making.{if_err}
use Rattle.postscript_write.proofs.Reaching.{on_ok, untold-of}
use Rattle.postscript_write.proofs.closure.reach_components.Goals as goal

pub returns-clause-grown : goal.returns-clause-grown
returns-clause-grown c =
    let pushed = c.in_ok-push_components.ensures.pushed in
    let all = c.deref.ensures.value ∙ pushed.2 ∙ ap (λ xs. xs ++ pushed.0) c.new-components.ensures.items in
    on_ok c.reach_all.result (λ grown. (
      pushed.0,
      pushed.1,
      subst (λ (xs : List ℕ). Grow c.args.marks.now.items c.args.glyphs.now.items xs c.reach_all.new.marks.items
          c.reach_all.new.glyphs.items) all grown,
    )) c.reach_all.ensures.grown

pub returns-clause-stops : goal.returns-clause-stops
returns-clause-stops c =
    let pushed = c.in_ok-push_components.ensures.pushed in
    let all = c.deref.ensures.value ∙ pushed.2 ∙ ap (λ xs. xs ++ pushed.0) c.new-components.ensures.items in
    if_err c.reach_all.result (λ e h. inl (untold-of c.args.font.now c.args.glyph pushed.0 e pushed.1
    (subst (λ n. IsNotChosen pushed.0 n e) c.requires.many
    (subst (λ (xs : List ℕ). IsNotChosen xs (length c.args.marks.now.items) e) all h)))) c.reach_all.ensures.refused

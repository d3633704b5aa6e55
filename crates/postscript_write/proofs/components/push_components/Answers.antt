use Rattle.std.proofs.Common.{[], subst, sym}
use Rattle.std.proofs.lemmas.List.{append-nil}
use Rattle.postscript_write.specs.Components.{IsSaidOf}
use Rattle.postscript_write.proofs.Accented.{none-of, pushed-so}
use Rattle.postscript_write.proofs.components.push_components.Goals as goal

pub returns-in-Some-clause-pushed : goal.returns-in-Some-clause-pushed
returns-in-Some-clause-pushed c =
    pushed-so c.push_both.result c.args.font.now c.args.glyph c.in-Some.accent c.args.components.now.items c.push_both.new.components.items
    (subst (λ o. IsSaidOf c.args.font.now c.args.glyph o) c.in-Some.is c.in_ok-said.ensures.said) c.push_both.ensures.pushed

pub returns-in-None-clause-pushed : goal.returns-in-None-clause-pushed
returns-in-None-clause-pushed c = (
  [],
  none-of c.args.font.now c.args.glyph
      (subst (λ o. IsSaidOf c.args.font.now c.args.glyph o) c.in-None.is c.in_ok-said.ensures.said),
  sym (append-nil c.args.components.now.items),
)

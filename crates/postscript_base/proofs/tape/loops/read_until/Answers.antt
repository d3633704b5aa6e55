use Rattle.std.proofs.Common.{arith}
use Rattle.std.proofs.Common.{◌∙◌, refl, sym}
use Rattle.std.proofs.lemmas.Result.{err_from_is_err_and}
use Rattle.postscript_base.proofs.Repeats.{views_push, views_none, until_starts, until_goes_on, until_refused, until_done}
use Rattle.postscript_base.proofs.tape.loops.read_until.Goals as goal

pub values-init : goal.values-init
values-init g c =
    λ honest. (
      (honest, refl),
      until_starts _ _ _ _ _ _ _ (views_none g.W.Linked.view g.W.Linked.views g.met.W.Linked.views_each _ c.new-values.ensures.items),
    )

pub returns-in_err-value-clause-exact : goal.returns-in_err-value-clause-exact
returns-in_err-value-clause-exact g c = grind (arith, err_from_is_err_and, until_refused)

pub values-preserved : goal.values-preserved
values-preserved g c = λ honest.
    let so_far = c.values.invariant honest in
    let read = c.in_ok-value.ensures.exact so_far.0.0 in
    let here = rw (so_far.0.1) at read.1 in
    let longer = views_push g.W.Linked.view g.W.Linked.views g.met.W.Linked.views_each c.values.values.items c.in_ok-value.value _
    c.in_ok-push.ensures.items in
    let more = sym c.is_last.ensures ∙ c.values-test.true in (
      (read.0.0, read.0.1 ∙ so_far.0.1),
      rw (longer, c.left-given.ensures) (until_goes_on _ _ _ _ _ _ _ _ _ _ more (c.requires _) here so_far.1),
    )

pub returns-clause-exact : goal.returns-clause-exact
returns-clause-exact g c = grind (arith, until_done)

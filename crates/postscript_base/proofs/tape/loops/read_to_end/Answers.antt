use Rattle.std.proofs.Common.{◌≡◌, sym, subst, ◌∙◌, arith}
use Rattle.std.proofs.lemmas.Result.{err_from_is_err_and}
use Rattle.postscript_base.specs.Tape.Onward.{MovesOn}
use Rattle.postscript_base.proofs.Repeats.{asked, views_push, views_none, end_starts, end_goes_on, end_refused, end_done}
use Rattle.postscript_base.proofs.tape.loops.read_to_end.Goals as goal

pub values-init : goal.values-init
values-init g c = grind (arith, asked, end_starts, views_none)

pub returns-in_err-value-clause-exact : goal.returns-in_err-value-clause-exact
returns-in_err-value-clause-exact g c = grind (arith, err_from_is_err_and, end_refused)

-- the place of an honest tape rises
pub returns-then-reached-place-clause-exact : goal.returns-then-reached-place-clause-exact
returns-then-reached-place-clause-exact g c = grind arith

pub values-preserved : goal.values-preserved
values-preserved g c = (
  λ honest.
      let so_far = c.values.invariant.0 honest in
      let next = c.in_ok-value.ensures.exact so_far.0.0 in
      let here = rw (so_far.0.1, c.in-Some.is) at next.1 in
      let place = c.in_ok-reached.ensures.exact next.0.0 in
      let at = asked _ _ _ place.1 in
      let longer = views_push g.V.Value.view g.V.Value.views g.met.V.Value.views_each c.values.values.items c.in-Some.value _
      c.in_ok-push.ensures.items in (
        (place.0.0, place.0.1 ∙ next.0.1 ∙ so_far.0.1),
        at.1 ∙ sym at.0,
        rw (longer, at.1) (end_goes_on _ _ _ _ _ _ _ c.requires here so_far.2),
      ),
  λ honest.
      let so_far = c.values.invariant.0 honest in
      let few = c.values.invariant.1 honest in
      let next = c.in_ok-value.ensures.exact so_far.0.0 in
      let here = rw (so_far.0.1, c.in-Some.is) at next.1 in
      let place = c.in_ok-reached.ensures.exact next.0.0 in
      let at = asked _ _ _ place.1 in
      let moved = subst (MovesOn _ _) here (c.requires _ _) in
      let reached : c.in_ok-reached.reached ≡ (g.T.ReadSeek.state c.next.new.tape).place = at.0 in (
        omega (arith, c.in_ok-push.ensures.len, few.0, c.if-reached-place.false),
        omega (arith, c.in_ok-push.ensures.len, few.0, so_far.1, moved.0, moved.1),
      ),
  let few = c.values.invariant.2 in
      omega (arith, c.in_ok-push.ensures.len, few, c.if-reached-place.false),
)

pub returns-clause-exact : goal.returns-clause-exact
returns-clause-exact g c = grind (arith, asked, end_done)

use Rattle.std.proofs.Common.{arith}
use Rattle.std.proofs.lemmas.Bool.Decides.{nat_tests}
use Rattle.std.proofs.lemmas.Grind.{common_steps}
use Rattle.std.proofs.Common.{◌∙◌}
use Rattle.std.proofs.lemmas.Result.{err_from_is_err_and}
use Rattle.postscript_base.proofs.Repeats.{goes_on, ends, is_done, views_push, each_more, each_done, for_goes_on, for_done}
use Rattle.postscript_base.proofs.tape.loops.read_each.Goals as goal

pub returns-in_err-value-clause-exact : goal.returns-in_err-value-clause-exact
returns-in_err-value-clause-exact g c = λ honest.
    let so_far = c.loop-source.invariant.0 honest in
    let read = c.in_err-value.ensures.exact so_far.0.0 in
    let error = err_from_is_err_and c.from_residual.result c.from_residual.ensures.1 in
    let here = rw (so_far.0.1) at read.1 in (
      (read.0.0, read.0.1 ∙ so_far.0.1),
      rw (error.1, error.2) (λ other. ends _ _ _ _ _ _ (here other)
          (each_more g.S.Source.seen
          (g.S.Source.reading c.args.given) c.args.sources.now c.loop-source.source-index c.source-item.result _ _ c.loop-source-test.true
          c.source-item.is) so_far.1),
    )

pub loop-source-preserved : goal.loop-source-preserved
loop-source-preserved g c = (
  λ honest.
      let so_far = c.loop-source.invariant.0 honest in
      let read = c.in_ok-value.ensures.exact so_far.0.0 in
      let here = rw (so_far.0.1) at read.1 in
      let longer = views_push g.S.Source.view g.S.Source.views g.met.S.Source.views_each c.loop-source.values.items c.in_ok-value.value _
      c.in_ok-push.ensures.items in (
        (read.0.0, read.0.1 ∙ so_far.0.1),
        rw longer (goes_on _ _ _ _ _ _ _ here
            (each_more g.S.Source.seen
            (g.S.Source.reading c.args.given) c.args.sources.now c.loop-source.source-index c.source-item.result _ _ c.loop-source-test.true
            c.source-item.is) so_far.1),
      ),
  rw c.in_ok-push.ensures.items
      (for_goes_on _ _ _ _ _ _ c.loop-source-test.true c.source-item.is c.loop-source.invariant.1 c.in_ok-value.ensures.fits),
)

pub returns-clause-exact : goal.returns-clause-exact
returns-clause-exact g c = grind (arith, nat_tests, common_steps, is_done, each_done)

pub returns-clause-fitting : goal.returns-clause-fitting
returns-clause-fitting g c = for_done _ _ _ _ c.loop-source-test.false c.loop-source.invariant.1

use Rattle.std.proofs.Common.{◌∙◌}
use Rattle.std.proofs.lemmas.Result.{err_from_is_err_and}
use Rattle.postscript_base.proofs.Repeats.{goes_on, ends, is_done, views_push, many_more, many_done}
use Rattle.postscript_base.proofs.tape.loops.read_many.Goals as goal

pub returns-in_err-value-clause-exact : goal.returns-in_err-value-clause-exact
returns-in_err-value-clause-exact g c = λ honest.
    let so_far = c.loop.invariant honest in
    let read = c.in_err-value.ensures.exact so_far.0.0 in
    let error = err_from_is_err_and c.from_residual.result c.from_residual.ensures.1 in
    let here = rw (so_far.0.1) at read.1 in (
      (read.0.0, read.0.1 ∙ so_far.0.1),
      rw (error.1, error.2) (λ other. ends _ _ _ _ _ _ (here other)
          (many_more g.V.Value.reading c.args.count c.loop.counter _ _ c.loop-test.true) so_far.1),
    )

pub loop-preserved : goal.loop-preserved
loop-preserved g c = λ honest.
    let so_far = c.loop.invariant honest in
    let read = c.in_ok-value.ensures.exact so_far.0.0 in
    let here = rw (so_far.0.1) at read.1 in
    let longer = views_push g.V.Value.view g.V.Value.views g.met.V.Value.views_each c.loop.values.items c.in_ok-value.value _
    c.in_ok-push.ensures.items in (
      (read.0.0, read.0.1 ∙ so_far.0.1),
      rw longer (goes_on _ _ _ _ _ _ _ here (many_more g.V.Value.reading c.args.count c.loop.counter _ _ c.loop-test.true) so_far.1),
    )

pub returns-clause-exact : goal.returns-clause-exact
returns-clause-exact g c = λ honest.
    let so_far = c.loop.invariant honest in
    (so_far.0, is_done _ _ _ _ (many_done g.V.Value.reading c.args.count c.loop.counter _ _ c.loop-test.false) so_far.1)

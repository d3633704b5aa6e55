use Rattle.std.proofs.Common.{arith}
use Rattle.std.proofs.lemmas.Bool.Decides.{nat_tests}
use Rattle.std.proofs.lemmas.Grind.{common_steps}
use Rattle.std.proofs.Common.{◌∙◌}
use Rattle.std.proofs.lemmas.Result.{err_from_is_err_and}
use Rattle.postscript_base.proofs.Repeats.{goes_on, ends, is_done, views_push, chain_more, chain_done, front_goes_on, front_done}
use Rattle.postscript_base.proofs.tape.loops.read_chain.Goals as goal

pub returns-in_err-value-clause-exact : goal.returns-in_err-value-clause-exact
returns-in_err-value-clause-exact g c = λ honest.
    let so_far = c.loop.invariant.0 honest in
    let read = c.in_err-value.ensures.exact so_far.0.0 in
    let error = err_from_is_err_and c.from_residual.result c.from_residual.ensures.1 in
    let here = rw (so_far.0.1) at read.1 in (
      (read.0.0, read.0.1 ∙ so_far.0.1),
      rw (error.1, error.2) (λ other. ends _ _ _ _ _ _ (here other)
          (chain_more g.W.Linked.reading g.W.Linked.left c.loop.given c.args.length c.loop.counter _ _ c.loop-test.true) so_far.1),
    )

pub loop-preserved : goal.loop-preserved
loop-preserved g c = (
  λ honest.
      let so_far = c.loop.invariant.0 honest in
      let read = c.in_ok-value.ensures.exact so_far.0.0 in
      let here = rw (so_far.0.1) at read.1 in
      let longer = views_push g.W.Linked.view g.W.Linked.views g.met.W.Linked.views_each c.loop.values.items c.in_ok-value.value _
      c.in_ok-push.ensures.items in (
        (read.0.0, read.0.1 ∙ so_far.0.1),
        rw (longer, c.left-given.ensures)
            (goes_on _ _ _ _ _ _ _ here
            (chain_more g.W.Linked.reading g.W.Linked.left c.loop.given c.args.length c.loop.counter _ _ c.loop-test.true) so_far.1),
      ),
  rw (c.in_ok-push.ensures.items, c.left-given.ensures)
      (front_goes_on _ _ _ _ _ _ _ _ c.loop-test.true c.loop.invariant.1 c.in_ok-value.ensures.follows),
)

pub returns-clause-exact : goal.returns-clause-exact
returns-clause-exact g c = grind (arith, nat_tests, common_steps, is_done, chain_done)

pub returns-clause-linked : goal.returns-clause-linked
returns-clause-linked g c = front_done _ _ _ _ _ _ _ c.loop-test.false c.loop.invariant.1

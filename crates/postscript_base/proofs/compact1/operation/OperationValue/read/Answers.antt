use Rattle.std.proofs.Common.{arith}
use Rattle.std.proofs.Common.{refl, ◌∙◌}
use Rattle.std.proofs.lemmas.Result.{err_from_is_err_and}
use Rattle.postscript_base.proofs.OperationSteps.{starts, goes_on, ends, refused}
use Rattle.postscript_base.proofs.compact1.operation.OperationValue.read.Goals as goal

pub operands-init : goal.operands-init
operands-init g c =
    λ honest. (
      (honest, refl),
      starts c.in_ok-operands.operands.items (g.T.ReadSeek.state c.args.tape.now).bytes
          (g.T.ReadSeek.state c.args.tape.now).place c.in_ok-operands.ensures.items,
    )

pub returns-in_err-operator-clause-exact : goal.returns-in_err-operator-clause-exact
returns-in_err-operator-clause-exact g c = λ honest.
    let so_far = c.operands.invariant honest in
    let step = c.in_err-operator.ensures.exact so_far.0.0 in
    let here = rw (so_far.0.1) at step.1 in
    let error = err_from_is_err_and c.from_residual-in_err-operator.result c.from_residual-in_err-operator.ensures.1 in
    ((step.0.0, step.0.1 ∙ so_far.0.1), rw (error.1, error.2) (λ other. refused _ _ _ _ _ (here other) so_far.1))

pub returns-in-Some-clause-exact : goal.returns-in-Some-clause-exact
returns-in-Some-clause-exact g c = grind (arith, ends)

pub operands-preserved : goal.operands-preserved
operands-preserved g c = grind (arith, goes_on)

use Rattle.std.proofs.Common.{◌∙◌, refl, ap, subst, ℕ, Ok}
use Rattle.postscript_type2.specs.Program.Limit.{Spends, nothing}
use Rattle.postscript_view.proofs.Limiting.{on-operation, on-end, on-pause}
use Rattle.postscript_write.proofs.components.run_within.Goals as goal

pub loop-e-init : goal.loop-e-init
loop-e-init c = record { paid = nothing; same = refl }

pub loop-e-preserved : goal.loop-e-preserved
loop-e-preserved c =
    let step = on-operation c.loop-e.program c.step_within.follows.lender-at-none
    (c.in-Ok-Operation.is ∙ ap Ok c.in-Ok-Operation.field-0-is) c.step_within.follows.holds-at-none c.loop-e.invariant.paid in
    record { paid = step.0; same = step.1 ∙ c.loop-e.invariant.same }

pub returns-in-Ok-End-clause-paid : goal.returns-in-Ok-End-clause-paid
returns-in-Ok-End-clause-paid c =
    (on-end c.loop-e.program c.step_within.follows.lender-at-none
    (c.in-Ok-End.is ∙ ap Ok c.in-Ok-End.field-0-is) c.step_within.follows.holds-at-none c.loop-e.invariant.paid).1

pub returns-in-Ok-Paused-clause-used_up : goal.returns-in-Ok-Paused-clause-used_up
returns-in-Ok-Paused-clause-used_up c =
    let last = on-pause c.loop-e.program c.step_within.follows.lender-at-none
    (c.in-Ok-Paused.is ∙ ap Ok c.in-Ok-Paused.field-0-is) c.step_within.follows.holds-at-none c.loop-e.invariant.paid in
    (last.1.0, subst (λ (left : ℕ). Spends c.args.limit.now c.args.program.now.trace left last.1.0) last.0 last.1.1)

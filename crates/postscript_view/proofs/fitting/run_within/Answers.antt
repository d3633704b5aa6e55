use Rattle.std.proofs.Common.{◌∙◌, refl, ap, sym, Ok}
use Rattle.postscript_type2.specs.Program.Limit.{nothing}
use Rattle.postscript_type2.specs.Program.Runs.{fault_of}
use Rattle.postscript_view.proofs.Limiting.{on-operation, on-end, on-pause, on-refusal}
use Rattle.postscript_view.proofs.fitting.run_within.Goals as goal

pub loop-e-init : goal.loop-e-init
loop-e-init c = record { paid = nothing; same = refl }

pub loop-e-preserved : goal.loop-e-preserved
loop-e-preserved c =
    let step = on-operation c.loop-e.program c.step_within.follows.lender-at-none
    (c.in-Ok-Operation.is ∙ ap Ok c.in-Ok-Operation.field-0-is) c.step_within.follows.holds-at-none c.loop-e.invariant.paid in
    record { paid = step.0; same = step.1 ∙ c.loop-e.invariant.same }

pub loop-e-smaller : goal.loop-e-smaller
loop-e-smaller c =
    (on-operation c.loop-e.program c.step_within.follows.lender-at-none
    (c.in-Ok-Operation.is ∙ ap Ok c.in-Ok-Operation.field-0-is) c.step_within.follows.holds-at-none c.loop-e.invariant.paid).2

pub returns-in-Ok-End-clause-goes : goal.returns-in-Ok-End-clause-goes
returns-in-Ok-End-clause-goes c =
    let last = on-end c.loop-e.program c.step_within.follows.lender-at-none
    (c.in-Ok-End.is ∙ ap Ok c.in-Ok-End.field-0-is) c.step_within.follows.holds-at-none c.loop-e.invariant.paid in
    (ap fault_of (sym c.loop-e.invariant.same) ∙ last.0, last.1)

pub returns-in-Ok-Paused-clause-goes : goal.returns-in-Ok-Paused-clause-goes
returns-in-Ok-Paused-clause-goes c =
    on-pause c.loop-e.program c.step_within.follows.lender-at-none
    (c.in-Ok-Paused.is ∙ ap Ok c.in-Ok-Paused.field-0-is) c.step_within.follows.holds-at-none c.loop-e.invariant.paid

pub returns-in-Err-clause-goes : goal.returns-in-Err-clause-goes
returns-in-Err-clause-goes c =
    on-refusal c.loop-e.program c.step_within.follows.lender-at-none c.args.program.now c.args.limit.now c.step_within.new.limit _
    c.in-Err.is c.step_within.follows.holds-at-none c.loop-e.invariant.paid c.loop-e.invariant.same c.refused_by.ensures

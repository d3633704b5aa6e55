use Rattle.std.proofs.Common.{refl, ap, ◌∙◌, subst, sym, Ok}
use Rattle.postscript_type2.specs.Program.Limit.{nothing}
use Rattle.postscript_type2.proofs.Limit.{runs-out}
use Rattle.postscript_view.specs.Advances.{PaysPhrases}
use Rattle.postscript_view.specs.declared.advance.AdvanceWithin.{AdvanceWithin}
use Rattle.postscript_view.proofs.Advancing.{pays, pays-refusal, width-stays}
use Rattle.postscript_view.proofs.Limiting.{on-operation, on-end, on-pause}
use Rattle.postscript_view.proofs.advance.advance_within.Goals as goal

pub loop-program-init : goal.loop-program-init
loop-program-init c = record { paid = nothing; end = refl; width = refl }

pub loop-program-preserved : goal.loop-program-preserved
loop-program-preserved c =
    let is = c.in-Ok-Operation.is ∙ ap Ok c.in-Ok-Operation.field-0-is in
    let step = on-operation c.loop-program.program c.step_within.follows.lender-at-none is c.step_within.follows.holds-at-none
    c.loop-program.invariant.paid in
    record {
      paid = step.0;
      end = step.1 ∙ c.loop-program.invariant.end;
      width = width-stays c.loop-program.program c.step_within.follows.lender-at-none _ _ is c.step_within.follows.holds-at-none
          ∙ c.loop-program.invariant.width;
    }

pub returns-in-Ok-End-clause-spent : goal.returns-in-Ok-End-clause-spent
returns-in-Ok-End-clause-spent c =
    let paid = (on-end c.loop-program.program c.step_within.follows.lender-at-none
    (c.in-Ok-End.is ∙ ap Ok c.in-Ok-End.field-0-is) c.step_within.follows.holds-at-none c.loop-program.invariant.paid).1 in
    subst (λ (told : AdvanceWithin). PaysPhrases c.args.program.now.trace c.args.limit.now (Ok told) c.step_within.new.limit)
    (sym c.outcome.ensures) (pays c.advance_by.result paid)

pub returns-in-Ok-Paused-clause-spent : goal.returns-in-Ok-Paused-clause-spent
returns-in-Ok-Paused-clause-spent c =
    on-pause c.loop-program.program c.step_within.follows.lender-at-none
    (c.in-Ok-Paused.is ∙ ap Ok c.in-Ok-Paused.field-0-is) c.step_within.follows.holds-at-none c.loop-program.invariant.paid

pub returns-in-Ok-Paused-clause-suffices : goal.returns-in-Ok-Paused-clause-suffices
returns-in-Ok-Paused-clause-suffices c = λ less _.
    let all = on-pause c.loop-program.program c.step_within.follows.lender-at-none
    (c.in-Ok-Paused.is ∙ ap Ok c.in-Ok-Paused.field-0-is) c.step_within.follows.holds-at-none c.loop-program.invariant.paid in
    runs-out _ _ _ all.1.0 all.1.1 all.0 less

pub returns-in-Err-clause-spent : goal.returns-in-Err-clause-spent
returns-in-Err-clause-spent c =
    pays-refusal c.loop-program.program c.step_within.follows.lender-at-none c.in-Err.is c.step_within.follows.holds-at-none
    c.loop-program.invariant.paid

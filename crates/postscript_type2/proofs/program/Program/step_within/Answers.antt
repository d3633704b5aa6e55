use Rattle.std.proofs.Common.{Err, ap, sym, ◌∙◌, refl, rules, subst}
use Rattle.postscript_base.specs.Error.{IsListed}
use Rattle.postscript_type2.specs.Program.Endings.{next_refusals}
use Rattle.postscript_type2.specs.Program.Within.{IsHeadWithin, StepsWithin}
use Rattle.postscript_type2.specs.Refused.{with_error}
use Rattle.postscript_type2.proofs.program.Program.step_within.Goals as goal

pub returns-in-Ok : goal.returns-in-Ok
returns-in-Ok c =
    let step = c.step_within_for in
    let is = ap with_error c.in-Ok.is in (
      (
        refl,
        λ _. tt,
        subst (λ r. StepsWithin c.args.self.now c.args.limit.now r step.follows.lender-at-none step.new.limit) is
            step.follows.holds-at-none,
      ),
      record {
        steps = tt;
        head = subst (IsHeadWithin c.args.self.now) is step.ensures.head;
        listed = tt;
        ended = search rules;
        over = λ operands over. sym is ∙ ap with_error (step.ensures.over operands over);
        failed = search rules;
        suffices = search rules;
      },
    )

pub returns-in-Err : goal.returns-in-Err
returns-in-Err c =
    let step = c.step_within_for in
    let is = ap with_error c.in-Err.is ∙ ap Err (sym c.from.ensures) in (
      (
        refl,
        λ _. tt,
        subst (λ r. StepsWithin c.args.self.now c.args.limit.now r step.follows.lender-at-none step.new.limit) is
            step.follows.holds-at-none,
      ),
      record {
        steps = tt;
        head = subst (IsHeadWithin c.args.self.now) is step.ensures.head;
        listed = subst (IsListed next_refusals) is step.ensures.listed;
        ended = search rules;
        over = λ operands over. sym is ∙ ap with_error (step.ensures.over operands over);
        failed = search rules;
        suffices = search rules;
      },
    )

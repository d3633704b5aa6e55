use Rattle.std.proofs.Common.{ap, sym, ◌∙◌, subst, Ok}
use Rattle.postscript_variable.specs.Evaluation.{Run}
use Rattle.postscript_variable.specs.Private.Machines.{Advances, still_of, work_of}
use Rattle.postscript_type2.proofs.Limit.{falls-so}
use Rattle.postscript_variable.proofs.Limit.{paid}
use Rattle.postscript_variable.proofs.Passing.{at-first, passes-on, goes-back, goes-on, used-up, refused}
use Rattle.postscript_variable.proofs.machine.Machine.reach_within.Goals as goal

pub loop-self-init : goal.loop-self-init
loop-self-init c = record { nested = c.requires.nested; passes = at-first c.args.self.now c.args.limit.now }

pub returns-then-limit-eq0-clause-reaches : goal.returns-then-limit-eq0-clause-reaches
returns-then-limit-eq0-clause-reaches c =
    let so_far = passes-on c.loop-self.invariant.passes c.in_ok-pass_numbers.ensures.passes in
    (sym so_far.answers, sym so_far.end, c.if-limit-eq0.true, so_far.spends)

pub loop-self-preserved-in-Ok-Back : goal.loop-self-preserved-in-Ok-Back
loop-self-preserved-in-Ok-Back c =
    let so_far = passes-on c.loop-self.invariant.passes c.in_ok-pass_numbers.ensures.passes in
    let back = subst (λ event. Advances (still_of c.pass_numbers.new.self)
    (work_of (still_of c.pass_numbers.new.self) c.pass_numbers.new.self) (Ok event) c.advance.new.self) c.in-Ok-Back.field-0-is
    c.in-Ok-Back.ensures.advances in
    record { nested = c.in-Ok-Back.ensures.nested; passes = goes-back so_far back.0 back.1 }

pub loop-self-preserved : goal.loop-self-preserved
loop-self-preserved c =
    let so_far = passes-on c.loop-self.invariant.passes c.in_ok-pass_numbers.ensures.passes in
    let went = subst (λ event. Advances (still_of c.pass_numbers.new.self)
    (work_of (still_of c.pass_numbers.new.self) c.pass_numbers.new.self) (Ok event) c.advance.new.self) c.in-Ok-Continued.field-0-is
    c.in-Ok-Continued.ensures.advances in
    record { nested = c.in-Ok-Continued.ensures.nested; passes = goes-on so_far c.if-limit-eq0.false went.0 went.1 c.spend.ensures went.2 }

pub returns-in-Ok-Operation-clause-reaches : goal.returns-in-Ok-Operation-clause-reaches
returns-in-Ok-Operation-clause-reaches c =
    let so_far = passes-on c.loop-self.invariant.passes c.in_ok-pass_numbers.ensures.passes in
    let answered = subst (λ event. Advances (still_of c.pass_numbers.new.self)
    (work_of (still_of c.pass_numbers.new.self) c.pass_numbers.new.self) (Ok event) c.advance.new.self) c.in-Ok-Operation.field-0-is
    c.in-Ok-Operation.ensures.advances in (
      (sym so_far.answers ∙ ap (λ (run : Run). run.answers) answered.0, sym so_far.end ∙ ap (λ (run : Run). run.end) answered.0),
      paid so_far.spends c.if-limit-eq0.false answered.0 answered.1 c.spend-in-Ok-Operation.ensures,
      falls-so so_far.less c.if-limit-eq0.false answered.1 c.spend-in-Ok-Operation.ensures,
    )

pub returns-in-Ok-UsedUp-clause-reaches : goal.returns-in-Ok-UsedUp-clause-reaches
returns-in-Ok-UsedUp-clause-reaches c =
    let so_far = passes-on c.loop-self.invariant.passes c.in_ok-pass_numbers.ensures.passes in
    let over = subst (λ event. Advances (still_of c.pass_numbers.new.self)
    (work_of (still_of c.pass_numbers.new.self) c.pass_numbers.new.self) (Ok event) c.advance.new.self) c.in-Ok-UsedUp.field-0-is
    c.in-Ok-UsedUp.ensures.advances in
    used-up over.0 so_far over.1

pub returns-in-Err-clause-reaches : goal.returns-in-Err-clause-reaches
returns-in-Err-clause-reaches c =
    let so_far = passes-on c.loop-self.invariant.passes c.in_ok-pass_numbers.ensures.passes in
    refused c.in-Err.e so_far c.in-Err.ensures.advances

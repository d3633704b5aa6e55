use Rattle.std.proofs.Common.{◌≡◌, ◌≢◌, Ok, arith, rules, refl, subst}
use Rattle.postscript_type2.specs.declared.program.Phase.{Phase}
use Rattle.postscript_type2.specs.declared.program.Phase.TheVariants.{Running, Paused, Ended, Failed}
use Rattle.postscript_type2.specs.Program.Limit.{Spends}
use Rattle.postscript_type2.specs.Private.Limited.{StopsWithin}
use Rattle.postscript_type2.specs.Private.Machines.{still_of, still_emptied}
use Rattle.postscript_type2.specs.Private.Working.{settled_width}
use Rattle.postscript_type2.proofs.EndingLaws.{machine-ends}
use Rattle.postscript_type2.proofs.Limit.{runs-out, stays-over, stays-refused}
use Rattle.postscript_type2.proofs.program.Program.step_within_for.Goals as goal

-- a program that does not go on, and was not refused, was told its end
is-ended : (phase : Phase) → phase ≢ Running → phase ≢ Paused → phase ≢ Failed → phase ≡ Ended
is-ended Running a b c = absurd (a refl)
is-ended Paused a b c = absurd (b refl)
is-ended Ended a b c = refl
is-ended Failed a b c = absurd (c refl)

pub returns-in_default-2 : goal.returns-in_default-2
returns-in_default-2 g c =
    let is : c.self.inside.phase ≡ Ended = is-ended c.self.inside.phase (search rules) (search rules) (search rules) in (
      (refl, λ _. tt, stays-over c.self.inside.machine c.args.limit.now is c.self.view_is),
      record {
        steps = tt;
        head = search rules;
        listed = tt;
        ended = search rules;
        over = λ operands is. search rules;
        failed = search rules;
        suffices = search rules;
      },
    )

pub returns-in_default : goal.returns-in_default
returns-in_default g c =
    let is : c.self.inside.phase ≡ Failed = search rules in (
      (refl, λ _. tt, stays-refused c.self.inside.machine c.args.limit.now is c.self.view_is),
      record {
        steps = tt;
        head = search rules;
        listed = search rules;
        ended = search rules;
        over = λ operands is. search rules;
        failed = search rules;
        suffices = search rules;
      },
    )

pub returns-in-Ok-At : goal.returns-in-Ok-At
returns-in-Ok-At g c =
    let before = c.match-self.self-inside.machine in
    let stops = subst (λ stop. StopsWithin (still_of before) before.state.width (Ok stop) c.stop_within.new.self) c.in-Ok-At.field-0-is
    c.in-Ok-At.ensures.stops in (
      (refl, λ _. tt, search rules),
      record {
        steps = tt;
        head = (
          stops.0.0,
          settled_width c.stop_within.new.self.state.width,
          (still_emptied c.stop_within.new.self).answers,
          search rules,
        );
        listed = tt;
        ended = search rules;
        over = λ operands is. search rules;
        failed = search rules;
        suffices = search rules;
      },
    )

pub returns-in-Ok-Paused : goal.returns-in-Ok-Paused
returns-in-Ok-Paused g c =
    let spends : Spends c.args.limit.now c.args.self.now.trace c.stop_within.new.limit
    (still_of c.stop_within.new.self).trace = search rules in
    let none : c.stop_within.new.limit ≡ 0 = search rules in (
      (refl, λ _. tt, search rules),
      record {
        steps = tt;
        head = tt;
        listed = tt;
        ended = search rules;
        over = λ operands is. search rules;
        failed = search rules;
        suffices = λ less _. runs-out c.args.limit.now c.args.self.now.trace c.stop_within.new.limit
            (still_of c.stop_within.new.self).trace spends none less;
      },
    )

pub returns-in-Err : goal.returns-in-Err
returns-in-Err g c = (
  (refl, λ _. tt, search rules),
  record {
    steps = tt;
    head = search rules;
    listed = grind (arith, machine-ends);
    ended = search rules;
    over = λ operands is. search rules;
    failed = search rules;
    suffices = search rules;
  },
)

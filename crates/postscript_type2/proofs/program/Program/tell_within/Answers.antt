use Rattle.std.proofs.Common.{◌≡◌, Ok, arith, rules, refl, subst}
use Rattle.postscript_type2.specs.Program.Limit.{Spends}
use Rattle.postscript_type2.specs.Private.Limited.{StopsWithin, TellsHints, stop_of}
use Rattle.postscript_type2.specs.Private.Machines.{still_of, still_emptied}
use Rattle.postscript_type2.specs.Private.Working.{settled_width}
use Rattle.postscript_type2.proofs.EndingLaws.{machine-ends}
use Rattle.postscript_type2.proofs.Limit.{runs-out, stays-over, stays-refused}
use Rattle.postscript_type2.proofs.program.Program.tell_within.Goals as goal

pub returns-in-Ended : goal.returns-in-Ended
returns-in-Ended c = (
  (refl, λ _. tt, (stays-over c.self.inside.machine c.args.limit.now c.in-Ended.is c.self.view_is, tt)),
  record {
    steps = tt;
    head = search rules;
    hints = search rules;
    listed = tt;
    ended = search rules;
    over = λ operands is. search rules;
    failed = search rules;
    suffices = search rules;
  },
)

pub returns-in-Failed : goal.returns-in-Failed
returns-in-Failed c = (
  (refl, λ _. tt, (stays-refused c.self.inside.machine c.args.limit.now c.in-Failed.is c.self.view_is, tt)),
  record {
    steps = tt;
    head = search rules;
    hints = search rules;
    listed = search rules;
    ended = search rules;
    over = λ operands is. search rules;
    failed = search rules;
    suffices = search rules;
  },
)

pub returns-in-Ok-At : goal.returns-in-Ok-At
returns-in-Ok-At c =
    let before = c.match-self.self-inside.machine in
    let stops = subst (λ stop. StopsWithin (still_of before) before.state.width (stop_of (Ok stop)) c.tell_within.new.self)
    c.in-Ok-At.field-0-is c.in-Ok-At.ensures.stops in
    let hints = subst (λ told. TellsHints (still_of before) (Ok told) c.tell_within.new.self) c.in-Ok-At.field-0-is
    c.in-Ok-At.ensures.hints in (
      (refl, λ _. tt, search rules),
      record {
        steps = tt;
        head = (
          stops.0.0,
          settled_width c.tell_within.new.self.state.width,
          (still_emptied c.tell_within.new.self).answers,
          search rules,
        );
        hints = search rules;
        listed = tt;
        ended = search rules;
        over = λ operands is. search rules;
        failed = search rules;
        suffices = search rules;
      },
    )

pub returns-in-Ok-Paused : goal.returns-in-Ok-Paused
returns-in-Ok-Paused c =
    let spends : Spends c.args.limit.now c.args.self.now.trace c.tell_within.new.limit
    (still_of c.tell_within.new.self).trace = search rules in
    let none : c.tell_within.new.limit ≡ 0 = search rules in (
      (refl, λ _. tt, search rules),
      record {
        steps = tt;
        head = tt;
        hints = tt;
        listed = tt;
        ended = search rules;
        over = λ operands is. search rules;
        failed = search rules;
        suffices = λ less _. runs-out c.args.limit.now c.args.self.now.trace c.tell_within.new.limit
            (still_of c.tell_within.new.self).trace spends none less;
      },
    )

pub returns-in-Err : goal.returns-in-Err
returns-in-Err c = (
  (refl, λ _. tt, search rules),
  record {
    steps = tt;
    head = search rules;
    hints = search rules;
    listed = grind (arith, machine-ends);
    ended = search rules;
    over = λ operands is. search rules;
    failed = search rules;
    suffices = search rules;
  },
)

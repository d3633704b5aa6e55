use Rattle.std.proofs.Common.{◌≡◌, ap, subst, sym, arith, rules, refl, Ok}
use Rattle.postscript_type2.specs.declared.program.Phase.TheVariants as phases
use Rattle.postscript_variable.specs.Limit.{Spends}
use Rattle.postscript_variable.specs.Private.Limited.{ReachesWithin}
use Rattle.postscript_variable.specs.Private.Machines.{still_of, still_emptied}
use Rattle.postscript_variable.specs.Programs.{Pending, begun}
use Rattle.postscript_variable.proofs.EndingLaws.{machine-ends}
use Rattle.postscript_variable.proofs.Limit.{runs-out, stays-over, stays-refused}
use Rattle.postscript_variable.proofs.program.Program.step_within.Goals.{in-Running, in-Paused}
use Rattle.postscript_variable.proofs.program.Program.step_within.Goals as goal

pub returns-in-Ended : goal.returns-in-Ended
returns-in-Ended c = (
  (refl, λ _. tt, stays-over c.self.inside.machine c.args.limit.now c.in-Ended.is c.self.view_is),
  record { steps = tt; head = search rules; listed = tt; ended = search rules; failed = search rules; suffices = search rules },
)

pub returns-in-Failed : goal.returns-in-Failed
returns-in-Failed c = (
  (refl, λ _. tt, stays-refused c.self.inside.machine c.args.limit.now c.in-Failed.is c.self.view_is),
  record { steps = tt; head = search rules; listed = search rules; ended = search rules; failed = search rules; suffices = search rules },
)

pub returns-in-Ok-At : goal.returns-in-Ok-At
returns-in-Ok-At c =
    let goes : (c.match-self.self-inside.phase ≡ phases.Running) × (c.args.self.now ≡ begun (still_of c.match-self.self-inside.machine)) =
    elim c.match-self.branch [ in-Running w ↦ search rules | in-Paused w ↦ search rules ] in (
      (refl, λ _. tt, search rules),
      record {
        steps =
            tt;
        head = ((still_emptied c.reach_within.new.self).answers, search rules);
        listed = tt;
        ended = search rules;
        failed = search rules;
        suffices = search rules;
      },
    )

pub returns-in-Ok-End : goal.returns-in-Ok-End
returns-in-Ok-End c =
    let goes : (c.match-self.self-inside.phase ≡ phases.Running) × (c.args.self.now ≡ begun (still_of c.match-self.self-inside.machine)) =
    elim c.match-self.branch [ in-Running w ↦ search rules | in-Paused w ↦ search rules ] in (
      (refl, λ _. tt, search rules),
      record { steps = tt; head = search rules; listed = tt; ended = search rules; failed = search rules; suffices = search rules },
    )

pub returns-in-Ok-Paused : goal.returns-in-Ok-Paused
returns-in-Ok-Paused c =
    let goes : (c.match-self.self-inside.phase ≡ phases.Running) × (c.args.self.now ≡ begun (still_of c.match-self.self-inside.machine)) =
    elim c.match-self.branch [ in-Running w ↦ search rules | in-Paused w ↦ search rules ] in
    let there = ap (λ (p : Pending). p.costs) goes.1 in
    let reaches = subst (λ reach. ReachesWithin (still_of c.match-self.self-inside.machine) c.args.limit.now
    (Ok reach) c.reach_within.new.self c.reach_within.new.limit)
    c.in-Ok-Paused.field-0-is c.in-Ok-Paused.ensures.reaches in
    let spends : Spends c.args.limit.now c.args.self.now.costs c.reach_within.new.limit (still_of c.reach_within.new.self).costs =
    subst (λ costs. Spends c.args.limit.now costs c.reach_within.new.limit (still_of c.reach_within.new.self).costs)
    (sym there) reaches.3 in
    let none : c.reach_within.new.limit ≡ 0 = search rules in (
      (refl, λ _. tt, search rules),
      record {
        steps = tt;
        head = tt;
        listed = tt;
        ended = search rules;
        failed = search rules;
        suffices = λ less _. runs-out c.args.limit.now c.args.self.now.costs c.reach_within.new.limit
            (still_of c.reach_within.new.self).costs spends none less;
      },
    )

pub returns-in-Err : goal.returns-in-Err
returns-in-Err c =
    let goes : (c.match-self.self-inside.phase ≡ phases.Running) × (c.args.self.now ≡ begun (still_of c.match-self.self-inside.machine)) =
    elim c.match-self.branch [ in-Running w ↦ search rules | in-Paused w ↦ search rules ] in (
      (refl, λ _. tt, search rules),
      record {
        steps =
            tt;
        head = search rules;
        listed = grind (arith, machine-ends);
        ended = search rules;
        failed = search rules;
        suffices = search rules;
      },
    )

use Rattle.std.proofs.Common.{◌≡◌, arith, rules, refl}
use Rattle.postscript_type2.specs.declared.program.Phase.TheVariants as phases
use Rattle.postscript_variable.specs.Private.Machines.{still_of, still_emptied}
use Rattle.postscript_variable.specs.Programs.{begun}
use Rattle.postscript_variable.proofs.EndingLaws.{machine-ends}
use Rattle.postscript_variable.proofs.program.Program.step.Goals.{in-Running, in-Paused}
use Rattle.postscript_variable.proofs.program.Program.step.Goals as goal

pub returns-in-Ok-Some : goal.returns-in-Ok-Some
returns-in-Ok-Some c =
    let goes : (c.match-self.self-inside.phase ≡ phases.Running) × (c.args.self.now ≡ begun (still_of c.match-self.self-inside.machine)) =
    elim c.match-self.branch [ in-Running w ↦ search rules | in-Paused w ↦ search rules ] in (
      (refl, λ _. tt, search rules),
      record {
        steps =
            tt;
        head = ((still_emptied c.reach.new.self).answers, search rules);
        listed = tt;
        ended = search rules;
        failed = search rules;
      },
    )

pub returns-in-Ok-None : goal.returns-in-Ok-None
returns-in-Ok-None c =
    let goes : (c.match-self.self-inside.phase ≡ phases.Running) × (c.args.self.now ≡ begun (still_of c.match-self.self-inside.machine)) =
    elim c.match-self.branch [ in-Running w ↦ search rules | in-Paused w ↦ search rules ] in
    search rules

pub returns-in-Err : goal.returns-in-Err
returns-in-Err c = grind (arith, machine-ends)

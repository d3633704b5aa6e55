use Rattle.std.proofs.Common.{◌≡◌, length, Result, subst, inr, arith, rules}
use Rattle.postscript_base.specs.Error.{IsListed}
use Rattle.postscript_base.specs.declared.error.Error.{Error}
use Rattle.postscript_type2.specs.Private.Machines.{still_of}
use Rattle.postscript_type2.specs.Program.Endings.{flatten_refusals, next_refusals}
use Rattle.postscript_type2.specs.Program.Limit.{nothing}
use Rattle.postscript_type2.specs.Program.Within.{AnswersWithin}
use Rattle.postscript_type2.proofs.EndingLaws.{machine-ends, flatten-listed}
use Rattle.postscript_type2.proofs.Limit.{no-pause}
use Rattle.postscript_type2.proofs.program.Program.flat_within.Goals.{in-Running, in-Paused}
use Rattle.postscript_type2.proofs.program.Program.flat_within.Goals as goal

-- what `flatten` is refused with, `next` is
wider : {A : Type 0} (r : Result A Error) → IsListed flatten_refusals r → IsListed next_refusals r
wider r h = grind arith

pub returns-in-Ended-clause-fits : goal.returns-in-Ended-clause-fits
returns-in-Ended-clause-fits c = let none : length c.args.self.trace ≡ 0 = search rules in (c.args.self.trace, nothing, omega (arith, none))

pub returns-in-Failed-clause-fits : goal.returns-in-Failed-clause-fits
returns-in-Failed-clause-fits c =
    let none : length c.args.self.trace ≡ 0 = search rules in inr (c.args.self.trace, nothing, omega (arith, none))

pub returns-clause-suffices : goal.returns-clause-suffices
returns-clause-suffices c =
    let fits : AnswersWithin c.args.self.trace c.args.limit.now c.flat_code_within.result c.flat_code_within.new.limit = search rules in
    λ less is. no-pause (subst (λ answer. AnswersWithin c.args.self.trace c.args.limit.now answer c.flat_code_within.new.limit) is fits)
    less

pub returns-clause-listed : goal.returns-clause-listed
returns-clause-listed c = elim c.match-self.branch [
  | in-Running w ↦ wider c.flat_code_within.result
      (flatten-listed c.flat_code_within.result (still_of w.empty.new.self).end (machine-ends w.empty.new.self) (search rules))
  | in-Paused w ↦ wider c.flat_code_within.result
      (flatten-listed c.flat_code_within.result (still_of c.self.inside.machine).end (machine-ends c.self.inside.machine) (search rules))
]

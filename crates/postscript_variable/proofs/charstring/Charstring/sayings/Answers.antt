use Rattle.std.proofs.Common.{◌∙◌, arith}
use Rattle.postscript_variable.proofs.EndingLaws.{machine-ends}
use Rattle.postscript_variable.proofs.SaysLaws.{machine-says, machine-stops}
use Rattle.postscript_variable.proofs.charstring.Charstring.sayings.Goals as goal

pub returns-in-Ok-clause-said : goal.returns-in-Ok-clause-said
returns-in-Ok-clause-said c =
    machine-says c.args.self c.empty.new.self _ c.in-Ok.ensures.faultless.0
    (c.empty.ensures.still ∙ c.over-machine.ensures.run) c.in-Ok.ensures.told c.in-Ok.ensures.faultless.1

pub returns-clause-refused : goal.returns-clause-refused
returns-clause-refused c =
    rw c.from.ensures (machine-stops c.args.self c.empty.new.self c.in-Err.e
    (c.empty.ensures.still ∙ c.over-machine.ensures.run) c.in-Err.ensures.refused)

pub returns-clause-listed : goal.returns-clause-listed
returns-clause-listed c = grind (arith, machine-ends)

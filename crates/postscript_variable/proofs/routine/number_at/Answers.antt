use Rattle.std.proofs.Common.{sym, ◌∙◌}
use Rattle.postscript_variable.proofs.Numbers.{front-of, number-there}
use Rattle.postscript_variable.proofs.routine.number_at.Goals as goal

pub returns-clause-found : goal.returns-clause-found
returns-clause-found c =
    let front = front-of c.args.code.now c.args.place c.requires in
    number-there _ c.args.code.now c.args.place c.at.result c.requires front
    (sym c.begins_number.ensures ∙ c.if-not-begins_number.false) c.at.ensures.found

use Rattle.std.proofs.Common.{◌≡◌, option_map, drop}
use Rattle.std.specs.Option.{ok_or}
use Rattle.postscript_type2.specs.declared.refused.Refused.TheVariants.{UnknownOperator}
use Rattle.postscript_variable.specs.Commands.{command_of}
use Rattle.postscript_variable.proofs.Reading.{operator-one}
use Rattle.postscript_variable.proofs.routine.command_at.Goals as goal

pub returns-then-first-ne12-clause-exact : goal.returns-then-first-ne12-clause-exact
returns-then-first-ne12-clause-exact c =
    let found : c.operator_at.result ≡ ok_or (option_map (λ command. (command, c.args.place)) (command_of c.args.first)) UnknownOperator = rw
    (← c.from.ensures) c.operator_at.ensures in
    operator-one (drop c.args.place c.args.code.now) c.args.place c.args.first _ c.if-first-ne12.true found

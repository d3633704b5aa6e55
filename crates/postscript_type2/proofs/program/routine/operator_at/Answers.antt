use Rattle.std.proofs.Common.{◌≡◌, ◌+◌, option_map, drop}
use Rattle.std.specs.Option.{ok_or}
use Rattle.std.proofs.lemmas.Result.{err_from_is_err_and}
use Rattle.postscript_type2.specs.declared.refused.Refused.TheVariants.{UnknownOperator}
use Rattle.postscript_type2.specs.Operation.Operators.{operator_of}
use Rattle.postscript_type2.proofs.Bytes.{byte-there, byte-missing}
use Rattle.postscript_type2.proofs.Pieces.{operator-one, operator-two, operator-cut}
use Rattle.postscript_type2.proofs.program.routine.operator_at.Goals as goal

pub returns-then-first-ne12-clause-exact : goal.returns-then-first-ne12-clause-exact
returns-then-first-ne12-clause-exact c =
    let found : c.known.result ≡ ok_or (option_map (λ op. (op, c.args.place)) (operator_of c.args.first)) UnknownOperator = rw
    (← c.from.ensures) c.known.ensures in
    operator-one (drop c.args.place c.args.code.now) c.args.place c.args.first _ c.if-first-ne12.true found

pub returns-in_err-second-clause-exact : goal.returns-in_err-second-clause-exact
returns-in_err-second-clause-exact c =
    let error = err_from_is_err_and c.from_residual.result c.from_residual.ensures.1 in
    let none = byte-missing c.args.code.now c.args.place _ c.in_err-second.ensures.exact in
    rw (error.1, error.2) (operator-cut
    (drop c.args.place c.args.code.now) c.args.place c.args.first c.in_err-second.field-0.0 none.0 c.if-first-ne12.false none.1)

pub returns-clause-exact : goal.returns-clause-exact
returns-clause-exact c =
    let found : c.known-2.result ≡ ok_or
    (option_map (λ op. (op, c.in_ok-second.behind)) (operator_of (0x0c00 + c.in_ok-second.second))) UnknownOperator = rw
    (← c.from-2.ensures) c.known-2.ensures in
    let there = byte-there c.args.code.now c.args.place c.in_ok-second.second c.in_ok-second.behind c.in_ok-second.ensures.exact in
    operator-two (drop c.args.place c.args.code.now) c.args.place c.args.first c.in_ok-second.second c.in_ok-second.behind _ _ there.0
    there.1 c.if-first-ne12.false found

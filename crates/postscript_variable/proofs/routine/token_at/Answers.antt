use Rattle.std.proofs.Common.{rules, ◌≡◌, ◌∙◌, FitsSigned, w32, true, arith}
use Rattle.std.proofs.lemmas.Int.{to_z-of_z}
use Rattle.postscript_type2.specs.Program.Parsing.{is_number}
use Rattle.postscript_variable.proofs.Reading.{number-read, number-cut}
use Rattle.postscript_variable.proofs.routine.token_at.Goals as goal

pub returns-in-Some-clause-exact : goal.returns-in-Some-clause-exact
returns-in-Some-clause-exact c =
    let fits : FitsSigned w32 c.bits.result = search rules in
    let begins : is_number c.args.first ≡ true = search rules in
    let bits = to_z-of_z w32 c.bits.result fits ∙ c.bits.ensures in
    rw bits (number-read c.args.first c.args.code.now c.args.place _ _ c.requires.room c.requires.front begins c.in-Some.ensures.found)

pub returns-in-Some-clause-behind : goal.returns-in-Some-clause-behind
returns-in-Some-clause-behind c =
    let begins : is_number c.args.first ≡ true = search rules in
    let read = number-read c.args.first c.args.code.now c.args.place _ _ c.requires.room c.requires.front begins c.in-Some.ensures.found in
    let next = read.2 in omega (arith, next)

pub returns-in-None-clause-exact : goal.returns-in-None-clause-exact
returns-in-None-clause-exact c =
    let begins : is_number c.args.first ≡ true = search rules in
    number-cut c.args.first c.args.code.now c.args.place c.requires.room c.requires.front begins c.in-None.ensures.none

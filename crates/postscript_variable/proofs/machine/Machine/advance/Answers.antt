use Rattle.std.proofs.Common.{rules, ◌≡◌, ◌∙◌, ap, sym, subst, inr, Some, Ok, FitsSigned, w32}
use Rattle.std.proofs.lemmas.Result.{err_from_is_err_and}
use Rattle.std.proofs.lemmas.Int.{to_z-of_z}
use Rattle.postscript_variable.specs.declared.routine.Token.TheVariants as tokens
use Rattle.postscript_variable.specs.Private.Remaining.{still_number}
use Rattle.postscript_variable.specs.Private.Working.{font_of, state_of, ReadsFront}
use Rattle.postscript_variable.proofs.Fronts.{number-front, operator-front, unread-front, advances-as}
use Rattle.postscript_variable.proofs.machine.Machine.advance.Goals as goal

pub returns-in_err-token-clause-advances : goal.returns-in_err-token-clause-advances
returns-in_err-token-clause-advances c =
    let error = err_from_is_err_and c.from_residual.result c.from_residual.ensures.1 in
    rw (error.1, error.2) (inr
    (unread-front (font_of c.args.self.now.font) c.args.self.now.left c.args.self.now.routine c.next_token.new.routine
    c.args.self.now.callers
    (state_of c.args.self.now.state) c.in_err-token.field-0.0 c.in_err-token.ensures.reads))

pub returns-in-Number-clause-advances : goal.returns-in-Number-clause-advances
returns-in-Number-clause-advances c =
    let machine = c.args.self.now in
    let size = c.in-Some.size in
    let some : c.in_ok-token.field-0 ≡ Some (tokens.Number c.in-Number.bits, size) = search rules in
    let read : ReadsFront machine.routine (Ok (Some (tokens.Number c.in-Number.bits, size))) c.next_token.new.routine =
    subst (λ token. ReadsFront machine.routine (Ok token) c.next_token.new.routine) some c.in_ok-token.ensures.reads in
    let fits : FitsSigned w32 c.in-Number.bits = search rules in
    let number : c.from_bits.result ≡ c.in-Number.bits = c.from_bits.ensures ∙ to_z-of_z w32 c.in-Number.bits fits in
    advances-as _ _ _ (number-front (font_of machine.font) machine.left machine.routine c.next_token.new.routine machine.callers
    (state_of machine.state) c.in-Number.bits size read
    ∙ ap (still_number (font_of machine.font) machine.left c.next_token.new.routine machine.callers (state_of machine.state) size)
    (sym number)) c.push.ensures.advances

pub returns-in-Operator-clause-advances : goal.returns-in-Operator-clause-advances
returns-in-Operator-clause-advances c =
    let machine = c.args.self.now in
    let size = c.in-Some.size in
    let some : c.in_ok-token.field-0 ≡ Some (tokens.Operator c.in-Operator.command, size) = search rules in
    let read : ReadsFront machine.routine (Ok (Some (tokens.Operator c.in-Operator.command, size))) c.next_token.new.routine =
    subst (λ token. ReadsFront machine.routine (Ok token) c.next_token.new.routine) some c.in_ok-token.ensures.reads in
    advances-as _ _ _ (operator-front (font_of machine.font) machine.left machine.routine c.next_token.new.routine machine.callers
    (state_of machine.state) c.in-Operator.command size read)
    c.operate.ensures.advances

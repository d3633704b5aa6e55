-- What is still answered, by what is read at the front of a routine.
use Rattle.std.proofs.Common.{◌≡◌, ap, sym, subst, ◌∙◌, ℕ, suc, ◌+◌, ◌*◌, ◌<◌, ℤ, List, length, Some, Result, Ok, Err, arith}
use Rattle.postscript_variable.specs.declared.command.Command.{Command}
use Rattle.postscript_variable.specs.declared.machine.Event.{Event}
use Rattle.postscript_variable.specs.declared.machine.Machine.{Machine}
use Rattle.postscript_type2.specs.declared.refused.Refused.{Refused}
use Rattle.postscript_variable.specs.declared.routine.Token.{Token}
use Rattle.postscript_variable.specs.declared.routine.Token.TheVariants as tokens
use Rattle.postscript_variable.specs.Costs.{cost_beside}
use Rattle.postscript_variable.specs.Effects.{effect}
use Rattle.postscript_variable.specs.State.{Font, State}
use Rattle.postscript_variable.specs.Evaluation.{Run, at_end}
use Rattle.postscript_variable.specs.Meaning.{Stopped}
use Rattle.postscript_variable.specs.Private.Machines.{Advances}
use Rattle.postscript_type2.specs.Refused.{reason}
use Rattle.postscript_variable.specs.Private.Remaining.{still, still_number, still_moved}
use Rattle.postscript_variable.specs.Private.Working.{ReadsFront}
use Rattle.postscript_variable.proofs.Remains.{still-number, still-operator, still-unread}

pub number-front : (font : Font) (left : ℕ) (old new : List ℕ) (cs : List (List ℕ)) (st : State) (x : ℤ) (size : ℕ) →
    ReadsFront old (Ok (Some (tokens.Number x, size))) new →
    still font left old cs st ≡ still_number font left new cs st size x
number-front font left old new cs st x size h =
    ap (λ rest. still font left rest cs st) h.3 ∙ still-number font left h.0 h.1 cs st x h.2 h.4
    ∙ ap (λ rest. still_number font left rest cs st (suc h.2) x) (sym h.6) ∙ ap (λ n. still_number font left new cs st n x) (sym h.5)

pub operator-front : (font : Font) (left : ℕ) (old new : List ℕ) (cs : List (List ℕ)) (st : State) (command : Command) (size : ℕ) →
    ReadsFront old (Ok (Some (tokens.Operator command, size))) new →
    still font left old cs st ≡ still_moved font left new cs st.stack (size + cost_beside command st.stack) (effect font command new st)
operator-front font left old new cs st command size h =
    ap (λ rest. still font left rest cs st) h.3 ∙ still-operator font left h.0 h.1 cs st command h.2 h.4
    ∙ ap (λ rest. still_moved font left rest cs st.stack (suc h.2 + cost_beside command st.stack) (effect font command rest st)) (sym h.6)
    ∙ ap (λ n. still_moved font left new cs st.stack (n + cost_beside command st.stack) (effect font command new st)) (sym h.5)

-- what is read has a byte
pub some-read : (read : Token × ℕ) (old new : List ℕ) → ReadsFront old (Ok (Some read)) new → 0 < read.1
some-read read old new h = let size = h.5 in omega (arith, size)

pub unread-front : (font : Font) (left : ℕ) (old new : List ℕ) (cs : List (List ℕ)) (st : State) (e : Refused) →
    ReadsFront old (Err e) new →
    still font left old cs st ≡ at_end (Stopped (reason e))
unread-front font left old new cs st e h = ap (λ rest. still font left rest cs st) h.2 ∙ still-unread font left h.0 h.1 cs st (reason e) h.3

-- an event is the first of what was still answered, where it is of a run that is the same
pub advances-as : {before same : Run} (depth : ℕ) (r : Result Event Refused) (new : Machine) → before ≡ same →
    Advances same (2 * length same.costs + depth) r new →
    Advances before (2 * length before.costs + depth) r new
advances-as depth r new is h = subst (λ (run : Run). Advances run (2 * length run.costs + depth) r new) (sym is) h

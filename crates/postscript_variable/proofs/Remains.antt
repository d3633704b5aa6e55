-- One step of a program with a chain of callers.
use Rattle.std.proofs.Common.{arith, ◌≡◌, refl, ap, ◌∙◌, ℕ, zero, suc, ◌+◌, ℤ, List, [], ◌∷◌, drop, Some, None}
use Rattle.std.proofs.Math.Path.{fun_ext}
use Rattle.std.proofs.lemmas.List.{drop-drop}
use Rattle.postscript_base.specs.Refusal.{Refusal, too_deep}
use Rattle.postscript_variable.specs.declared.command.Command.{Command}
use Rattle.postscript_variable.specs.Costs.{cost_beside}
use Rattle.postscript_variable.specs.Effects.{effect}
use Rattle.postscript_variable.specs.State.{Font, State, Effect}
use Rattle.postscript_variable.specs.Evaluation.{Run, at_end, with_step, with_answer, with_any_answer, followed, after_call, Stride, On, Into, Halts, moved, stride_by, stride, Callee, paced, routine, callee, mean}
use Rattle.postscript_variable.specs.Meaning.{End, UsedUp, Stopped}
use Rattle.postscript_variable.specs.Private.Remaining.{through, still, still_number, still_moved}
use Rattle.postscript_variable.specs.Sayings.{Phrase}
use Rattle.postscript_variable.specs.Tokens.{Token, Number, Operator, NoToken, token}

-- a routine past k bytes is the routine from there
pub routine-from : (font : Font) (callee : Callee) (k : ℕ) (r : List ℕ) (st : State) →
    routine font callee k r st ≡ routine font callee 0 (drop k r) st
routine-from font callee zero [] st = refl
routine-from font callee (suc k) [] st = refl
routine-from font callee zero (b ∷ r) st = refl
routine-from font callee (suc k) (b ∷ r) st = routine-from font callee k r st

followed-step : (cost : ℕ) (run : Run) (go : End → Run) → followed (with_step cost run) go ≡ with_step cost (followed run go)
followed-step cost run go = grind arith

pub followed-end : (st : State) (go : State → Run) → followed (at_end (UsedUp st)) (after_call go) ≡ go st
followed-end st go = grind arith

through-steps : (font : Font) (left : ℕ) (cs : List (List ℕ)) (cost : ℕ) (run : Run) →
    through font left cs (with_step cost run) ≡ with_step cost (through font left cs run)
through-steps font left [] cost run = refl
through-steps font left (c ∷ cs) cost run =
    ap (through font (suc left) cs) (followed-step cost run (after_call (λ st. mean font (suc left) c st)))
    ∙ through-steps font (suc left) cs cost _

through-answers : (font : Font) (left : ℕ) (cs : List (List ℕ)) (answer : Phrase) (run : Run) →
    through font left cs (with_answer answer run) ≡ with_answer answer (through font left cs run)
through-answers font left [] answer run = refl
through-answers font left (c ∷ cs) answer run = through-answers font (suc left) cs answer _

through-stopped : (font : Font) (left : ℕ) (cs : List (List ℕ)) (e : Refusal) →
    through font left cs (at_end (Stopped e)) ≡ at_end (Stopped e)
through-stopped font left [] e = refl
through-stopped font left (c ∷ cs) e = through-stopped font (suc left) cs e

-- what is still answered by a stride, where these bytes are behind the first
abbrev next_still : Font → (left : ℕ) → (r : List ℕ) → (callers : List (List ℕ)) → Stride → Run
next_still font left r cs (On answer st more cost) = with_step cost (with_any_answer answer (still font left (drop more r) cs st))
next_still font zero r cs (Into sub st more cost) = at_end (Stopped too_deep)
next_still font (suc left) r cs (Into sub st more cost) = with_step cost (still font left sub (drop more r ∷ cs) st)
next_still font left r cs (Halts e) = at_end (Stopped e)

step-by : (font : Font) (left : ℕ) (r : List ℕ) (cs : List (List ℕ)) (s : Stride) →
    through font left cs (paced (callee font left) (λ more st. routine font (callee font left) more r st) s) ≡ next_still font left r cs s
step-by font left r cs (On (Some answer) st more cost) =
    through-steps font left cs cost _ ∙ ap (with_step cost) (through-answers font left cs answer _)
    ∙ ap (λ run. with_step cost (with_answer answer (through font left cs run))) (routine-from font (callee font left) more r st)
step-by font left r cs (On None st more cost) =
    through-steps font left cs cost _
    ∙ ap (λ run. with_step cost (through font left cs run)) (routine-from font (callee font left) more r st)
step-by font zero r cs (Into sub st more cost) = through-stopped font zero cs too_deep
step-by font (suc left) r cs (Into sub st more cost) =
    through-steps font (suc left) cs cost _
    ∙ ap (λ go. with_step cost (through font (suc left) cs (followed (mean font left sub st) (after_call go))))
    (fun_ext (routine-from font (callee font (suc left)) more r))
step-by font left r cs (Halts e) = through-stopped font left cs e

still-step : (font : Font) (left first : ℕ) (r : List ℕ) (cs : List (List ℕ)) (st : State) (t : Token) → token first r ≡ t →
    still font left (first ∷ r) cs st ≡ next_still font left r cs (stride_by font r st t)
still-step font left first r cs st t is =
    step-by font left r cs (stride font first r st) ∙ ap (λ u. next_still font left r cs (stride_by font r st u)) is

number-by : (font : Font) (left : ℕ) (r : List ℕ) (cs : List (List ℕ)) (st : State) (x : ℤ) (more : ℕ) →
    next_still font left r cs (stride_by font r st (Number x more)) ≡ still_number font left (drop more r) cs st (suc more) x
number-by font left r cs st x more = grind arith

moved-by : (font : Font) (left : ℕ) (r : List ℕ) (cs : List (List ℕ)) (stack : List ℤ) (more cost : ℕ) (m : Effect) →
    next_still font left r cs (moved stack (drop more r) more cost m) ≡ still_moved font left (drop more r) cs stack cost m
moved-by font left r cs stack more cost m = grind (arith, drop-drop)

-- what is still answered where a number stands at the front, where an operator does, and where neither does
pub still-number : (font : Font) (left first : ℕ) (r : List ℕ) (cs : List (List ℕ)) (st : State) (x : ℤ) (more : ℕ) →
    token first r ≡ Number x more →
    still font left (first ∷ r) cs st ≡ still_number font left (drop more r) cs st (suc more) x
still-number font left first r cs st x more is = still-step font left first r cs st (Number x more) is ∙ number-by font left r cs st x more

pub still-operator : (font : Font) (left first : ℕ) (r : List ℕ) (cs : List (List ℕ)) (st : State) (command : Command) (more : ℕ) →
    token first r ≡ Operator command more →
    still font left (first ∷ r) cs st ≡ still_moved font left (drop more r) cs st.stack (suc more + cost_beside command st.stack)
    (effect font command (drop more r) st)
still-operator font left first r cs st command more is =
    still-step font left first r cs st (Operator command more) is
    ∙ moved-by font left r cs st.stack more (suc more + cost_beside command st.stack) (effect font command (drop more r) st)

pub still-unread : (font : Font) (left first : ℕ) (r : List ℕ) (cs : List (List ℕ)) (st : State) (e : Refusal) → token first r ≡ NoToken e →
    still font left (first ∷ r) cs st ≡ at_end (Stopped e)
still-unread font left first r cs st e is = still-step font left first r cs st (NoToken e) is

-- where the routine is used up its caller goes on
pub still-left : (font : Font) (left : ℕ) (c : List ℕ) (cs : List (List ℕ)) (st : State) →
    still font left [] (c ∷ cs) st ≡ still font (suc left) c cs st
still-left font left c cs st = ap (through font (suc left) cs) (followed-end st (λ st'. mean font (suc left) c st'))

-- and where there is none the run is over
pub still-over : (font : Font) (left : ℕ) (r : List ℕ) (cs : List (List ℕ)) (st : State) → r ≡ [] → cs ≡ [] →
    (st' : State) × (still font left r cs st ≡ at_end (UsedUp st'))
still-over font left r cs st none outermost = rw (none, outermost) (st, refl)

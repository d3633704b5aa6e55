-- The meaning, computed.
use Rattle.std.specs.Prelude.{ℕ, zero, suc, ◌+◌, ℤ, nat_lt, List, [], ◌∷◌, ◌++◌, take, drop, length, Option, Some, None, if◌then◌else◌}
use Rattle.postscript_base.specs.Refusal.{Refusal, too_deep, overflow}
use Rattle.postscript_type2.specs.Program.Runs.{Answer}
use Rattle.postscript_variable.specs.Costs.{cost_beside}
use Rattle.postscript_variable.specs.Effects.{effect}
use Rattle.postscript_variable.specs.State.{Font, State, start, stack_limit, pushed, Effect, Keeps, Clears, Calls, Refuses}
use Rattle.postscript_variable.specs.Meaning.{End, UsedUp, Stopped, answer}
use Rattle.postscript_variable.specs.Sayings.{Phrase, said}
use Rattle.postscript_variable.specs.Tokens.{Token, Number, Operator, NoToken, token}

-- a run: its operations, the same operations with their hints, the cost of each number and operator that it reads, and its end
pub record Run : Type 0 where
  pub answers : List Answer
  pub says : List Phrase
  pub costs : List ℕ
  pub end : End

abbrev pub at_end : End → Run
at_end end = record { answers = []; says = []; costs = []; end = end }

-- a run with one more number or operator before it, and with one more operation
abbrev pub with_step : (cost : ℕ) → Run → Run
with_step cost run = record { answers = run.answers; says = run.says; costs = cost ∷ run.costs; end = run.end }

abbrev pub with_answer : Phrase → Run → Run
with_answer x run = record {
  answers = answer x.operator x.operands ∷ run.answers;
  says = x ∷ run.says;
  costs = run.costs;
  end = run.end;
}

abbrev pub with_any_answer : Option Phrase → Run → Run
with_any_answer None run = run
with_any_answer (Some x) run = with_answer x run

-- a run that is continued after its end
abbrev pub followed : Run → (End → Run) → Run
followed run go = record {
  answers = run.answers ++ (go run.end).answers;
  says = run.says ++ (go run.end).says;
  costs = run.costs ++ (go run.end).costs;
  end = (go run.end).end;
}

abbrev pub after_call : (State → Run) → End → Run
after_call go (UsedUp st) = go st
after_call go (Stopped e) = at_end (Stopped e)

-- The result of a number or an operator. `more` is the number of its bytes after the first, and `cost` is its cost.
pub data Stride : Type 0 where
  On : Option Phrase → State → (more : ℕ) → (cost : ℕ) → Stride
  Into : (routine : List ℕ) → State → (more : ℕ) → (cost : ℕ) → Stride
  Halts : Refusal → Stride

-- The result of an operator. `stack` is the stack before it, `behind` are the bytes after it, and `cost` is its cost without a mask.
abbrev pub moved : (stack : List ℤ) → (behind : List ℕ) → (more : ℕ) → (cost : ℕ) → Effect → Stride
moved stack behind more cost (Keeps st) = On None st more cost
moved stack behind more cost (Clears op taken st mask) =
    On (Some (said op stack taken (take mask behind))) st (more + mask) (cost + mask)
moved stack behind more cost (Calls routine st) = Into routine st more cost
moved stack behind more cost (Refuses e) = Halts e

abbrev pub stride_by : Font → (r : List ℕ) → State → Token → Stride
stride_by font r st (Number x more) =
    if nat_lt (length st.stack) stack_limit then On None (pushed x st) more (suc more) else Halts overflow
stride_by font r st (Operator command more) =
    moved st.stack (drop more r) more (suc more + cost_beside command st.stack) (effect font command (drop more r) st)
stride_by font r st (NoToken e) = Halts e

abbrev pub stride : Font → (first : ℕ) → (r : List ℕ) → State → Stride
stride font first r st = stride_by font r st (token first r)

-- the run of a routine, if calls may still nest
abbrev pub Callee : Type 0
Callee = Option (List ℕ → State → Run)

abbrev pub called : Callee → (cost : ℕ) → (routine : List ℕ) → State → (End → Run) → Run
called None cost routine st go = at_end (Stopped too_deep)
called (Some means) cost routine st go = with_step cost (followed (means routine st) go)

abbrev pub paced : Callee → (go : ℕ → State → Run) → Stride → Run
paced callee go (On answer st more cost) = with_step cost (with_any_answer answer (go more st))
paced callee go (Into routine st more cost) = called callee cost routine st (after_call (go more))
paced callee go (Halts e) = at_end (Stopped e)

-- the run of a routine after its first k bytes
abbrev pub routine : Font → Callee → (k : ℕ) → List ℕ → State → Run
routine font callee k [] st = at_end (UsedUp st)
routine font callee (suc k) (b ∷ r) st = routine font callee k r st
routine font callee zero (b ∷ r) st = paced callee (λ more st'. routine font callee more r st') (stride font b r st)

abbrev pub callee : Font → (left : ℕ) → Callee
callee font zero = None
callee font (suc left) = Some (λ r st. routine font (callee font left) 0 r st)

-- the run of a rest, if `left` calls may still nest
abbrev pub mean : Font → (left : ℕ) → List ℕ → State → Run
mean font left r st = routine font (callee font left) 0 r st

abbrev pub run_of : Font → (index : ℕ) → (code : List ℕ) → Run
run_of font index code = mean font 10 code (start font.tables index)

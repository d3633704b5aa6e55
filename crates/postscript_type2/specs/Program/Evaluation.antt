-- The meaning of programs, computed: each call is evaluated to its end.
use Rattle.std.specs.Prelude.{ℕ, zero, suc, ◌+◌, ℤ, Bool, true, false, ◌&&◌, not, List, [], ◌∷◌, ◌++◌, take, drop, Option, Some, None, if◌then◌else◌}
use Rattle.postscript_base.specs.Refusal.{Refusal, return_without_caller, trailing_data, too_deep}
use Rattle.postscript_type2.specs.declared.operation.Operator.{Operator}
use Rattle.postscript_type2.specs.Program.Effects.{Effect, Keeps, Clears, Calls, Returns, Ends, Refuses, effect}
use Rattle.postscript_type2.specs.Program.States.{State, start, pushed, stacked, holding, cleared}
use Rattle.postscript_type2.specs.Program.Parsing.{Parsed, Complete, NoPhrase, phrase}
use Rattle.postscript_type2.specs.Program.Routines.{Lists}
use Rattle.postscript_type2.specs.Program.Runs.{Answer, Phrase, End, UsedUp, Returned, Finished, Fault, Run}

-- parts of runs, one after another
abbrev pub at_end : End → Run
at_end end = record { answers = []; trace = []; end = end }

abbrev pub with_phrase : Phrase → Run → Run
with_phrase said run = record { answers = run.answers; trace = said ∷ run.trace; end = run.end }

abbrev pub with_answer : Answer → Run → Run
with_answer answer run = record { answers = answer ∷ run.answers; trace = run.trace; end = run.end }

abbrev pub with_any_answer : Option Answer → Run → Run
with_any_answer None run = run
with_any_answer (Some answer) run = with_answer answer run

-- a run, and the run that follows its end
abbrev pub followed : Run → (End → Run) → Run
followed run go = record {
  answers = run.answers ++ (go run.end).answers;
  trace = run.trace ++ (go run.end).trace;
  end = (go run.end).end;
}

abbrev pub is_empty : {A : Type 0} → List A → Bool
is_empty [] = true
is_empty (x ∷ xs) = false

-- the end of a run at `endchar`: in a subroutine no byte may follow it
abbrev pub finish : (inner : Bool) → (behind : List ℕ) → (taken : List ℤ) → Option ℤ → End
finish inner behind taken width = if inner && not (is_empty behind) then Fault trailing_data else Finished taken width

-- the run after the end of a call, if these bytes follow it: after a return it continues there
abbrev pub after_call : (inner : Bool) → (behind : List ℕ) → (State → Run) → End → Run
after_call inner behind go (Returned st) = go st
after_call inner behind go UsedUp = at_end UsedUp
after_call inner behind go (Fault e) = at_end (Fault e)
after_call inner behind go (Finished taken width) = at_end (finish inner behind taken width)

-- What a phrase does: the run goes on, goes into a routine, back to the caller, is over, or fails.
-- more: the number of bytes of the phrase after its first one, including the bytes of a mask.
pub data Stride : Type 0 where
  On : Phrase → Option Answer → State → (more : ℕ) → Stride
  Into : Phrase → (routine : List ℕ) → State → (more : ℕ) → Stride
  Back : Phrase → State → Stride
  Over : Phrase → (taken : List ℤ) → (width : Option ℤ) → (more : ℕ) → Stride
  Faults : Refusal → Stride

abbrev pub said : Operator → (more : ℕ) → List ℕ → Phrase
said op more bytes = record { operator = op; bytes = take (more + 1) bytes }

-- the operation of an operator; `bytes` are the phrase and its mask, which follows the first byte and `more` others
abbrev pub answered : Operator → (taken pairs : List ℤ) → (more : ℕ) → List ℕ → (width : Option ℤ) → Answer
answered op taken pairs more bytes width =
    record { operator = op; operands = taken; hints = record { stems = pairs; mask = drop (more + 1) bytes }; width = width }

-- the stride of a phrase at the front of these bytes, from the effect of its operator
abbrev pub moved : Operator → (more : ℕ) → (bytes : List ℕ) → State → Effect → Stride
moved op more bytes st (Keeps stack stored) = On (said op more bytes) None (holding stack stored st) more
moved op more bytes st (Clears taken pairs stems width mask) =
    On (said op (more + mask) bytes) (Some (answered op taken pairs more (said op (more + mask) bytes).bytes width))
    (cleared stems width st) (more + mask)
moved op more bytes st (Calls routine stack) = Into (said op more bytes) routine (stacked stack st) more
moved op more bytes st Returns = Back (said op more bytes) st
moved op more bytes st (Ends taken width) = Over (said op more bytes) taken width more
moved op more bytes st (Refuses e) = Faults e

abbrev pub stride_by : Lists → (bytes : List ℕ) → State → Parsed → Stride
stride_by lists bytes st (NoPhrase e) = Faults e
stride_by lists bytes st (Complete numbers op more) =
    moved op more bytes (pushed numbers st) (effect lists op (drop (more + 1) bytes) (pushed numbers st))

-- the stride of the phrase at the front
abbrev pub stride : Lists → (bytes : List ℕ) → State → Stride
stride lists bytes st = stride_by lists bytes st (phrase bytes)

-- the meaning of a subroutine, if one more call may nest
abbrev pub Callee : Type 0
Callee = Option (List ℕ → State → Run)

-- a call: the meaning of the routine, and then the run after the call
abbrev pub called : Callee → (routine : List ℕ) → State → (End → Run) → Run
called None routine st go = at_end (Fault too_deep)
called (Some means) routine st go = followed (means routine st) go

-- A stride, and the run after it. r: the bytes after the first byte of the phrase. go: the run after a number of them.
abbrev pub paced : Callee → (inner : Bool) → (r : List ℕ) → (go : ℕ → State → Run) → Stride → Run
paced callee inner r go (On said answer st more) = with_phrase said (with_any_answer answer (go more st))
paced callee inner r go (Into said routine st more) = with_phrase said (called callee routine st (after_call inner (drop more r) (go more)))
paced callee inner r go (Back said st) = with_phrase said (at_end (if inner then Returned st else Fault return_without_caller))
paced callee inner r go (Over said taken width more) = with_phrase said (at_end (finish inner (drop more r) taken width))
paced callee inner r go (Faults e) = at_end (Fault e)

-- the meaning of a routine after its first k bytes
abbrev pub routine : Lists → Callee → (inner : Bool) → (k : ℕ) → List ℕ → State → Run
routine lists callee inner k [] st = at_end UsedUp
routine lists callee inner (suc k) (b ∷ r) st = routine lists callee inner k r st
routine lists callee inner zero (b ∷ r) st =
    paced callee inner r (λ more st'. routine lists callee inner more r st') (stride lists (b ∷ r) st)

-- the meaning of a subroutine, if this number of calls may still nest
abbrev pub callee : Lists → (left : ℕ) → Callee
callee lists zero = None
callee lists (suc left) = Some (λ r st. routine lists (callee lists left) true 0 r st)

-- the meaning of the rest of a routine, if this number of calls may still nest: in a subroutine, or in the outermost code
abbrev pub mean : Lists → (left : ℕ) → (inner : Bool) → List ℕ → State → Run
mean lists left inner r st = routine lists (callee lists left) inner 0 r st

-- the run of a code: ten calls may nest
abbrev pub run_of : Lists → (code : List ℕ) → Run
run_of lists code = mean lists 10 false code start

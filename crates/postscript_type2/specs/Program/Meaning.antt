-- The meaning of programs, with one case for each rule (Technical Note 5177, "Type 2 Charstring Organization", "Subroutine Operators",
-- "Operator for Finishing a Path"; Appendix B for the ten calls that may nest).
use Rattle.std.specs.Prelude.{◌≡◌, ◌≢◌, ℕ, suc, ◌<◌, ◌≤◌, ℤ, List, [], ◌∷◌, ◌++◌, length, Option}
use Rattle.postscript_base.specs.Refusal.{Refusal, return_without_caller, trailing_data, too_deep}
use Rattle.postscript_type2.specs.declared.operation.Operator.{Operator}
use Rattle.postscript_type2.specs.Program.Effects.{Effect, Keeps, Clears, Calls, Returns, Ends, Refuses, effect}
use Rattle.postscript_type2.specs.Program.States.{State, start, pushed, stacked, holding, cleared}
use Rattle.postscript_type2.specs.Program.Phrases.{IsPhrase, HasNoPhrase}
use Rattle.postscript_type2.specs.Program.Routines.{Lists}
use Rattle.postscript_type2.specs.Program.Runs.{Answer, Hints, Phrase, by, End, UsedUp, Returned, Finished, Fault, Run}

-- the operation of an operator that clears the stack
abbrev pub answer : Operator → (taken : List ℤ) → Hints → (width : Option ℤ) → Answer
answer op taken hints width = record { operator = op; operands = taken; hints = hints; width = width }

-- the hints with these stems and this mask
abbrev pub hinting : (pairs : List ℤ) → (mask : List ℕ) → Hints
hinting pairs mask = record { stems = pairs; mask = mask }

-- The end of the glyph at `endchar`, at this call depth and with these bytes after it: in a subroutine no byte may follow.
pub data Closes (taken : List ℤ) (width : Option ℤ) : (depth : ℕ) → (behind : List ℕ) → End → Type 0 where
  in_outermost : (behind : List ℕ) → Closes taken width 0 behind (Finished taken width)
  at_last_byte : (depth : ℕ) → Closes taken width depth [] (Finished taken width)
  with_bytes_behind : (depth : ℕ) (behind : List ℕ) → 0 < depth → behind ≢ [] → Closes taken width depth behind (Fault trailing_data)

-- the ends of a subroutine that also end its callers
pub data Stops : End → Type 0 where
  at_used_up : Stops UsedUp
  at_fault : (e : Refusal) → Stops (Fault e)

-- This phrase is before these bytes. From this state, with its numbers pushed, its operator has this effect.
pub record Moves (lists : Lists) (st : State) (phrase : List ℕ) (numbers : List ℤ) (op : Operator) (behind : List ℕ)
    (move : Effect) : Type 0 where
  pub spelled : IsPhrase phrase numbers op
  pub does : effect lists op behind (pushed numbers st) ≡ move

-- The meaning of the rest of a routine, from a state: its operations, its trace of phrases and its end. depth: the number of open calls, 0
-- in the outermost code. The effect of the phrase at the front selects the rule.
pub data Means (lists : Lists) : (depth : ℕ) → (rest : List ℕ) → State → List Answer → List Phrase → End → Type 0 where
  -- the routine is used up
  used_up : (depth : ℕ) (st : State) → Means lists depth [] st [] [] UsedUp
  -- bytes are left, and there is no phrase
  unread : (depth : ℕ) (rest : List ℕ) (st : State) (e : Refusal) → rest ≢ [] → HasNoPhrase rest e →
      Means lists depth rest st [] [] (Fault e)
  -- the operator fails
  refused : (depth : ℕ) (phrase behind : List ℕ) (numbers : List ℤ) (op : Operator) (st : State) (e : Refusal) →
      Moves lists st phrase numbers op behind (Refuses e) →
      Means lists depth (phrase ++ behind) st [] [] (Fault e)
  -- the operator leaves a stack and stored numbers, and the run continues with them after it
  keeps : (depth : ℕ) (phrase behind : List ℕ) (numbers : List ℤ) (op : Operator) (st : State) (stack stored : List ℤ)
      (answers : List Answer) (trace : List Phrase) (end : End) →
      Moves lists st phrase numbers op behind (Keeps stack stored) →
      Means lists depth behind (holding stack stored st) answers trace end →
      Means lists depth (phrase ++ behind) st answers (by op phrase ∷ trace) end
  -- the operator clears the stack and is an operation of the run, the bytes of a mask belong to it, and the run continues after them
  clears : (depth : ℕ) (phrase mask behind : List ℕ) (numbers : List ℤ) (op : Operator) (st : State)
      (taken pairs : List ℤ) (stems : ℕ) (width : Option ℤ) (answers : List Answer) (trace : List Phrase) (end : End) →
      Moves lists st phrase numbers op (mask ++ behind) (Clears taken pairs stems width (length mask)) →
      Means lists depth behind (cleared stems width st) answers trace end →
      Means lists depth (phrase ++ (mask ++ behind)) st (answer op taken (hinting pairs mask) width ∷ answers)
      (by op (phrase ++ mask) ∷ trace) end
  -- a call when ten are open
  calls_too_deep : (depth : ℕ) (phrase behind : List ℕ) (numbers : List ℤ) (op : Operator) (st : State)
      (subroutine : List ℕ) (stack : List ℤ) →
      Moves lists st phrase numbers op behind (Calls subroutine stack) → 10 ≤ depth →
      Means lists depth (phrase ++ behind) st [] (by op phrase ∷ []) (Fault too_deep)
  -- a call that returns, and the run continues after it with the state at the return
  calls : (depth : ℕ) (phrase behind : List ℕ) (numbers : List ℤ) (op : Operator) (st : State)
      (subroutine : List ℕ) (stack : List ℤ) (inner : List Answer) (inner_trace : List Phrase) (back : State)
      (answers : List Answer) (trace : List Phrase) (end : End) →
      Moves lists st phrase numbers op behind (Calls subroutine stack) → depth < 10 →
      Means lists (suc depth) subroutine (stacked stack st) inner inner_trace (Returned back) →
      Means lists depth behind back answers trace end →
      Means lists depth (phrase ++ behind) st (inner ++ answers) (by op phrase ∷ (inner_trace ++ trace)) end
  -- a call whose subroutine is used up or fails, which ends the run
  calls_to_stop : (depth : ℕ) (phrase behind : List ℕ) (numbers : List ℤ) (op : Operator) (st : State)
      (subroutine : List ℕ) (stack : List ℤ) (inner : List Answer) (inner_trace : List Phrase) (end : End) →
      Moves lists st phrase numbers op behind (Calls subroutine stack) → depth < 10 →
      Means lists (suc depth) subroutine (stacked stack st) inner inner_trace end → Stops end →
      Means lists depth (phrase ++ behind) st inner (by op phrase ∷ inner_trace) end
  -- a call whose subroutine ends the glyph
  calls_to_finish : (depth : ℕ) (phrase behind : List ℕ) (numbers : List ℤ) (op : Operator) (st : State)
      (subroutine : List ℕ) (stack : List ℤ) (inner : List Answer) (inner_trace : List Phrase) (taken : List ℤ)
      (width : Option ℤ) (end : End) →
      Moves lists st phrase numbers op behind (Calls subroutine stack) → depth < 10 →
      Means lists (suc depth) subroutine (stacked stack st) inner inner_trace (Finished taken width) → Closes taken width depth behind end →
      Means lists depth (phrase ++ behind) st inner (by op phrase ∷ inner_trace) end
  -- a return, in a subroutine and in the outermost code
  returns : (depth : ℕ) (phrase behind : List ℕ) (numbers : List ℤ) (op : Operator) (st : State) →
      Moves lists st phrase numbers op behind Returns → 0 < depth →
      Means lists depth (phrase ++ behind) st [] (by op phrase ∷ []) (Returned (pushed numbers st))
  returns_nowhere : (phrase behind : List ℕ) (numbers : List ℤ) (op : Operator) (st : State) →
      Moves lists st phrase numbers op behind Returns →
      Means lists 0 (phrase ++ behind) st [] (by op phrase ∷ []) (Fault return_without_caller)
  -- the end of the glyph
  finishes : (depth : ℕ) (phrase behind : List ℕ) (numbers : List ℤ) (op : Operator) (st : State) (taken : List ℤ)
      (width : Option ℤ) (end : End) →
      Moves lists st phrase numbers op behind (Ends taken width) → Closes taken width depth behind end →
      Means lists depth (phrase ++ behind) st [] (by op phrase ∷ []) end

-- the same for a run, and for the run of a code
abbrev pub MeansRun : Lists → (depth : ℕ) → (rest : List ℕ) → State → Run → Type 0
MeansRun lists depth rest st run = Means lists depth rest st run.answers run.trace run.end

abbrev pub IsRunOf : Lists → (code : List ℕ) → Run → Type 0
IsRunOf lists code run = MeansRun lists 0 code start run

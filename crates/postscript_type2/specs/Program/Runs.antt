-- Runs: their operations, their phrases and their end.
use Rattle.std.specs.Prelude.{ℕ, ℤ, List, [], ◌∷◌, Option, Some, None}
use Rattle.postscript_base.specs.Refusal.{Refusal}
use Rattle.postscript_type2.specs.declared.operation.Operator.{Operator}
use Rattle.postscript_type2.specs.Program.States.{State}

-- the hints of a mask: the operands of the stems that it implies, and its bytes (Technical Note 5177, "Hint Operators")
pub record Hints : Type 0 where
  pub stems : List ℤ
  pub mask : List ℕ

-- the hints of any other operator
abbrev pub no_hints : Hints
no_hints = record { stems = []; mask = [] }

-- an operation (`Answer`), the hints of a mask, and the width after it
pub record Answer : Type 0 where
  pub operator : Operator
  pub operands : List ℤ
  pub hints : Hints
  pub width : Option ℤ

-- a phrase of the run: its operator, and its bytes with those of its mask
pub record Phrase : Type 0 where
  pub operator : Operator
  pub bytes : List ℕ

abbrev pub by : Operator → (bytes : List ℕ) → Phrase
by op bytes = record { operator = op; bytes = bytes }

-- UsedUp: a routine was used up. Returned: it returned. Finished: `endchar` was reached and took these operands. Fault: the run failed.
pub data End : Type 0 where
  UsedUp : End
  Returned : State → End
  Finished : (taken : List ℤ) (width : Option ℤ) → End
  Fault : Refusal → End

pub record Run : Type 0 where
  pub answers : List Answer
  pub trace : List Phrase
  pub end : End

-- the operator and the operands of an operation
abbrev pub operation : Answer → Operator × List ℤ
operation answer = (answer.operator, answer.operands)

-- the fault at the end, if there is one
abbrev pub fault_of : End → Option Refusal
fault_of (Fault e) = Some e
fault_of end = None

-- the operands that `endchar` took at this end, and none at any other end
abbrev pub taken_by : End → List ℤ
taken_by (Finished taken width) = taken
taken_by end = []

-- the width after these operations
abbrev pub last_width : Option ℤ → List Answer → Option ℤ
last_width width [] = width
last_width width (answer ∷ answers) = last_width answer.width answers

-- The width at this end. `endchar` sets it. Otherwise it is the width after these operations, or `width` if there are none.
abbrev pub width_by : Option ℤ → List Answer → End → Option ℤ
width_by width answers (Finished taken last) = last
width_by width answers end = last_width width answers

-- the width of a run, if none is settled before it
abbrev pub width_of : Run → Option ℤ
width_of run = width_by None run.answers run.end

-- The remaining run of a program, as its callers see it.
use Rattle.std.specs.Prelude.{◌≡◌, ◌⊎◌, Bool, true, false, ℤ, List, [], ◌∷◌, Option, Some, None, Result, Ok, Err, Vec, if◌then◌else◌}
use Rattle.std.specs.declared.alloc.Global.{Global}
use Rattle.postscript_base.specs.declared.error.Error.{Error}
use Rattle.postscript_base.specs.declared.error.Error.TheVariants.{Memory, AlreadyFailed}
use Rattle.postscript_base.specs.RefusalOf.{refusal_of}
use Rattle.postscript_type2.specs.declared.operation.Operator.{Operator}
use Rattle.postscript_type2.specs.Program.Runs.{Answer, Hints, Phrase, End, UsedUp, Returned, Finished, Fault, Run, taken_by}

-- the remaining operations and phrases, the end after them, the width so far, and whether the end has been returned
pub record Pending : Type 0 where
  pub answers : List Answer
  pub trace : List Phrase
  pub end : End
  pub width : Option ℤ
  pub is_told : Bool

-- before the first operation of a run
abbrev pub begun : Run → Pending
begun run = record { answers = run.answers; trace = run.trace; end = run.end; width = None; is_told = false }

-- after an end without a fault was returned, at which `endchar` took these operands
abbrev pub ended_over : (taken : List ℤ) → Option ℤ → Pending
ended_over taken width = record { answers = []; trace = []; end = Finished taken width; width = width; is_told = true }

-- the same if `endchar` took none, or was not reached
abbrev pub ended : Option ℤ → Pending
ended width = ended_over [] width

-- after an error was returned
abbrev pub failed : Option ℤ → Pending
failed width = record { answers = []; trace = []; end = Fault (refusal_of AlreadyFailed); width = width; is_told = true }

-- An end without a fault: `endchar` sets the width, and otherwise it is unchanged.
abbrev pub IsLastWidth : End → Option ℤ → Option ℤ → Type 0
IsLastWidth UsedUp width new = new ≡ width
IsLastWidth (Finished taken last) width new = new ≡ last
IsLastWidth (Returned st) width new = ⊥
IsLastWidth (Fault e) width new = ⊥

-- the operands that `endchar` took, once the end has been returned
abbrev pub told_at_end : Pending → List ℤ
told_at_end pending = if pending.is_told then taken_by pending.end else []

-- The first remaining operation is returned with its width, and the rest remains. If there is none, None is returned at an end without a
-- fault, and the operands of `endchar` are kept. At a fault the error is returned, and the width is unchanged. Running out of memory may be
-- the error at any time. The hints of a mask are not returned.
abbrev pub Next : Pending → Result (Option (Operator × Vec ℤ Global)) Error → Pending → Type 0
Next old (Ok (Some operation)) new =
    ((hints : Hints) × (old.answers ≡ record { operator = operation.0; operands = operation.1.items; hints = hints; width = new.width }
    ∷ new.answers))
    × (new.end ≡ old.end) × (new.is_told ≡ false)
Next old (Ok None) new = (old.answers ≡ []) × IsLastWidth old.end old.width new.width × (new ≡ ended_over (taken_by old.end) new.width)
Next old (Err e) new = ((e ≡ Memory) ⊎ ((old.answers ≡ []) × (old.end ≡ Fault (refusal_of e)))) × (new ≡ failed old.width)

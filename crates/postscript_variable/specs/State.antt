-- The data of a run, and its state: the operands, the stems and the scalars in use (OpenType 1.9, "CFF2 CharString Format").
use Rattle.std.specs.Prelude.{ℕ, ℤ, Bool, false, List, [], ◌∷◌, ◌++◌, slice_get, Option}
use Rattle.postscript_base.specs.Refusal.{Refusal}
use Rattle.postscript_type2.specs.declared.operation.Operator.{Operator}
use Rattle.postscript_type2.specs.Program.Routines.{Lists}

-- the subroutines, and the scalars of the regions of each item variation data in the variation store
pub record Font : Type 0 where
  pub lists : Lists
  pub tables : List (List ℕ)

-- The operands, with the top last, and the number of stems. There are also the scalars of the item variation data in use, if any, and
-- whether a blend was run.
pub record State : Type 0 where
  pub stack : List ℤ
  pub stems : ℕ
  pub scalars : Option (List ℕ)
  pub is_blended : Bool

-- the item variation data in use at the start have the number that the Private DICT gives by vsindex
abbrev pub start : (tables : List (List ℕ)) → (index : ℕ) → State
start tables index = record { stack = []; stems = 0; scalars = slice_get tables index; is_blended = false }

-- the maximum number of operands on the stack ("CFF2 CharString Implementation Limits")
abbrev pub stack_limit : ℕ
stack_limit = 513

-- the state with another stack, with one more number on top, and with a number of stems and an empty stack
abbrev pub stacked : List ℤ → State → State
stacked stack st = record { stack = stack; stems = st.stems; scalars = st.scalars; is_blended = st.is_blended }

abbrev pub pushed : ℤ → State → State
pushed x st = stacked (st.stack ++ x ∷ []) st

abbrev pub cleared : (stems : ℕ) → State → State
cleared stems st = record { stack = []; stems = stems; scalars = st.scalars; is_blended = st.is_blended }

-- The effect of an operator. It keeps the run going with a state, gives an operation with operands and a number of mask bytes, calls a
-- routine, or fails.
pub data Effect : Type 0 where
  Keeps : State → Effect
  Clears : Operator → (taken : List ℤ) → State → (mask : ℕ) → Effect
  Calls : (routine : List ℕ) → State → Effect
  Refuses : Refusal → Effect

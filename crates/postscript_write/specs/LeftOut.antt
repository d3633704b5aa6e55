-- The rest of a DICT without some operators (Technical Note 5176, "DICT Data").
use Rattle.std.specs.Prelude.{◌≡◌, ◌⊎◌, ℕ, ◌-◌, take, drop, List, [], ◌∷◌, ◌++◌, length, map, None}
use Rattle.std.specs.List.{Contains}
use Rattle.std.specs.FinMap.{get}
use Rattle.postscript_base.specs.Tape.Outcome.{Got}
use Rattle.postscript_base.specs.Compact1.Dictionary.{Dictionary}
use Rattle.postscript_base.specs.Compact1.DictionaryLaw.{OperationsAt, UnfinishedAt}
use Rattle.postscript_base.specs.Compact1.Operation.{Operation, operation}
use Rattle.postscript_base.specs.declared.compact1.operator.Operator.{Operator}

-- the operators of operations
abbrev pub operators_in : List Operation → List Operator
operators_in operations = map (λ operation. operation.0) operations

-- An operation is left out if its operator is one of these, or occurs again later: the last operation of an operator counts.
abbrev pub IsLeftOut : (left_out later : List Operator) → Operator → Type 0
IsLeftOut left_out later operator = Contains left_out operator ⊎ Contains later operator

-- The operations of a DICT without some operators, and only the last one of each operator, in their order.
pub data AreLeft (left_out : List Operator) : (all left : List Operation) → Type 0 where
  none : AreLeft left_out [] []
  kept : (operation : Operation) (all left : List Operation) → (IsLeftOut left_out (operators_in all) operation.0 → ⊥) →
      AreLeft left_out all left → AreLeft left_out (operation ∷ all) (operation ∷ left)
  gone : (operation : Operation) (all left : List Operation) → IsLeftOut left_out (operators_in all) operation.0 →
      AreLeft left_out all left → AreLeft left_out (operation ∷ all) left

-- Bytes are the last operation of each operator of a DICT, without some operators.
abbrev pub IsWithout : List ℕ → List Operator → (out : List ℕ) → Type 0
IsWithout text left_out out = (all : List Operation) × (left : List Operation) × (end : ℕ) × OperationsAt text 0 all end
    × UnfinishedAt text end × AreLeft left_out all left × OperationsAt out 0 left (length out)

-- an operation from an offset on has this operator
abbrev pub IsToldFrom : (text : List ℕ) (place : ℕ) → Operator → Type 0
IsToldFrom text place operator = (operations : List Operation) × (end : ℕ) × OperationsAt text place operations end
    × Contains (operators_in operations) operator

-- The rest of the bytes from an offset on: the texts of the last operations of all operators but some, up to the first bytes that are not
-- an operation.
pub data IsLeftText (text : List ℕ) (left_out : List Operator) : (place : ℕ) (out : List ℕ) → Type 0 where
  ends : (place : ℕ) → ((o : Operation) (next : ℕ) → operation text place ≡ Got o next → ⊥) → IsLeftText text left_out place []
  keeps : (place next : ℕ) (o : Operation) (rest out : List ℕ) → operation text place ≡ Got o next →
      (Contains left_out o.0 ⊎ IsToldFrom text next o.0 → ⊥) → IsLeftText text left_out next rest → out ≡ take (next - place) (drop place text) ++ rest → IsLeftText text left_out place out
  leaves : (place next : ℕ) (o : Operation) (out : List ℕ) → operation text place ≡ Got o next →
      Contains left_out o.0 ⊎ IsToldFrom text next o.0 → IsLeftText text left_out next out → IsLeftText text left_out place out

-- A DICT lacks some operators, and has the same operands for all others.
pub record IsLess (left_out : List Operator) (old new : Dictionary) : Type 0 where
  pub gone : (operator : Operator) → Contains left_out operator → get new operator ≡ None
  pub stays : (operator : Operator) → (Contains left_out operator → ⊥) → get new operator ≡ get old operator

-- The operators of the whole operations at the beginning of the bytes. After them there is no operation.
pub record AreTold (text : List ℕ) (operators : List Operator) : Type 0 where
  pub all : List Operation
  pub end : ℕ
  pub are : OperationsAt text 0 all end
  pub stops : (o : Operation) (next : ℕ) → operation text end ≡ Got o next → ⊥
  pub told : operators ≡ operators_in all

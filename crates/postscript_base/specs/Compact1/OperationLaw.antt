-- An operation of a dictionary, defined without a parser: operands, and then an operator (Technical Note 5176, "DICT Data").
use Rattle.std.specs.Prelude.{◌≡◌, ◌≢◌, ℕ, Bool, true, false, List, [], ◌∷◌, drop}
use Rattle.postscript_base.specs.Tape.Outcome.{Got, Fault, Past, Reading, ◌>>=◌}
use Rattle.postscript_base.specs.Refusal.{Refusal}
use Rattle.postscript_base.specs.Numbers.{number as unsigned}
use Rattle.postscript_base.specs.Compact1.Decimal.{Decimal}
use Rattle.postscript_base.specs.Compact1.Number.{number}
use Rattle.postscript_base.specs.Compact1.Operation.{Operation, begins_operand, operation, operator_begun}
use Rattle.postscript_base.specs.declared.compact1.operator.Operator.{Operator}

-- operands one after the other, from the offset `place` to the offset `next`
abbrev pub OperandsAt : List ℕ → ℕ → List Decimal → ℕ → Type 0
OperandsAt bytes place [] next = next ≡ place
OperandsAt bytes place (operand ∷ operands) next = (at : ℕ) × (number bytes place ≡ Got operand at) × OperandsAt bytes at operands next

-- an operator with a known code: one byte, or 0x0c and a second byte
abbrev pub operator : Reading Operator
operator = unsigned 1 >>= operator_begun

-- operands, then an operator
abbrev pub OperationAt : List ℕ → ℕ → Operation → ℕ → Type 0
OperationAt bytes place operation next = (at : ℕ) × OperandsAt bytes place operation.1 at × (operator bytes at ≡ Got operation.0 next)

-- the first byte begins an operand
abbrev pub begins : List ℕ → Bool
begins [] = false
begins (first ∷ rest) = begins_operand first

-- reading an operand fails with this error, or reading an operator if no operand begins
abbrev pub RefusedBy : Bool → List ℕ → ℕ → Refusal → Type 0
RefusedBy true bytes place refusal = number bytes place ≡ Fault refusal
RefusedBy false bytes place refusal = operator bytes place ≡ Fault refusal

abbrev pub BadAt : List ℕ → ℕ → Refusal → Type 0
BadAt bytes place refusal = RefusedBy (begins (drop place bytes)) bytes place refusal

-- After some operands, reading a number or an operator fails with this error: it is bad, or the end truncates it.
pub record IsNoOperation (bytes : List ℕ) (place : ℕ) (refusal : Refusal) : Type 0 where
  pub operands : List Decimal
  pub next : ℕ
  pub are : OperandsAt bytes place operands next
  pub bad : BadAt bytes next refusal

-- A law: reading returns an operation exactly if it is there: operands one after the other, and then an operator. It fails exactly with the
-- error of the first number or operator that cannot be read. It never seeks past the end.
pub record ReadsOperations : Type 0 where
  pub all : (bytes : List ℕ) (place : ℕ) (o : Operation) (next : ℕ) → OperationAt bytes place o next → operation bytes place ≡ Got o next
  pub only : (bytes : List ℕ) (place : ℕ) (o : Operation) (next : ℕ) → operation bytes place ≡ Got o next → OperationAt bytes place o next
  pub refused : (bytes : List ℕ) (place : ℕ) (refusal : Refusal) → IsNoOperation bytes place refusal → operation bytes place ≡ Fault refusal
  pub refused_only : (bytes : List ℕ) (place : ℕ) (refusal : Refusal) → operation bytes place ≡ Fault refusal →
      IsNoOperation bytes place refusal
  pub never_past : (bytes : List ℕ) (place : ℕ) → operation bytes place ≢ Past

-- An operation: operands, then an operator (Technical Note 5176, "DICT Data").
use Rattle.std.specs.Prelude.{ℕ, zero, suc, ◌+◌, Bool, ◌&&◌, ◌||◌, List, [], ◌∷◌, ◌++◌, length, Option, Some, None, ◌==◌, nat_le, if◌then◌else◌}
use Rattle.postscript_base.specs.Tape.Outcome.{Reading, end, ◌>>=◌, pure, fault}
use Rattle.postscript_base.specs.Refusal.{unknown_operator}
use Rattle.postscript_base.specs.Numbers.{number}
use Rattle.postscript_base.specs.Compact1.Decimal.{Decimal}
use Rattle.postscript_base.specs.Compact1.Number.{begun}
use Rattle.postscript_base.specs.Compact1.Operators.{operator_of}
use Rattle.postscript_base.specs.declared.compact1.operator.Operator.{Operator}

abbrev pub Operation : Type 0
Operation = Operator × List Decimal

-- the first bytes of operands: 0x1c, 0x1d, 0x1e, and 0x20 to 0xfe
abbrev pub begins_operand : ℕ → Bool
begins_operand first = (nat_le 0x1c first && nat_le first 0x1e) || (nat_le 0x20 first && nat_le first 0xfe)

abbrev pub known : Option Operator → Reading Operator
known None = fault unknown_operator
known (Some operator) = pure operator

-- the rest of an operator after its first byte
abbrev pub operator_begun : ℕ → Reading Operator
operator_begun first = if first == 0x0c then (number 1 >>= λ second. known (operator_of (0x0c00 + second))) else known (operator_of first)

-- reads one more operand, or the operator
unfoldable pub step : List Decimal → Reading (Option Operator × List Decimal)
step operands = number 1 >>= λ first.
    if begins_operand first then (begun first >>= λ operand. pure (None, operands ++ operand ∷ []))
    else (operator_begun first >>= λ operator. pure (Some operator, operands))

abbrev pub ended_or : Option Operator → List Decimal → (List Decimal → Reading Operation) → Reading Operation
ended_or None operands more = more operands
ended_or (Some operator) operands more = pure (operator, operands)

-- an operation after its first operands, with a limit on the number of steps
unfoldable pub operation_from : ℕ → List Decimal → Reading Operation
operation_from zero operands bytes place = end
operation_from (suc most) operands bytes place = (step operands >>= λ found. ended_or found.0 found.1 (operation_from most)) bytes place

-- An operation. Each step reads at least one byte, so the limit is never reached before the end of the bytes.
unfoldable pub operation : Reading Operation
operation bytes place = operation_from (suc (length bytes)) [] bytes place

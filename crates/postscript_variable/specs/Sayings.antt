-- The operations of a charstring with their hints in full (OpenType 1.9, "CFF2 CharString Format", "Hint Operators"; Technical Note 5177,
-- "Hint Operators").
use Rattle.std.specs.Prelude.{ℕ, ℤ, List, []}
use Rattle.postscript_type2.specs.declared.operation.Operator.{Operator}
use Rattle.postscript_type2.specs.Operation.Kinds.{Kind, Masks, kind}
use Rattle.postscript_type2.specs.Program.Effects.{last_of, implied}

-- An operation in full: an operator with its operands and the bytes of its mask. At a mask, `stems` are the operands before it for stems
-- that no operator declared.
pub record Phrase : Type 0 where
  pub operator : Operator
  pub stems : List ℤ
  pub operands : List ℤ
  pub mask : List ℕ

-- The operands of the stems that a mask implies. They are the whole stack, or all but the lowest operand if the number of operands is odd.
abbrev pub implied_by : Kind → (stack : List ℤ) → List ℤ
implied_by (Masks takes) stack = last_of stack (implied stack)
implied_by kind stack = []

-- the operation of an operator on a stack, with these operands and this mask
abbrev pub said : Operator → (stack taken : List ℤ) → (mask : List ℕ) → Phrase
said op stack taken mask = record { operator = op; stems = implied_by (kind op) stack; operands = taken; mask = mask }

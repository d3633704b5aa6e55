-- The cost of numbers and operators. It is no rule of the specification: it bounds the time of a call.
use Rattle.std.specs.Prelude.{ℕ, ℤ, List, length}
use Rattle.postscript_variable.specs.declared.command.Command.{Command}
use Rattle.postscript_variable.specs.declared.command.Command.TheVariants.{Blend}

-- A number or an operator costs a unit for each of its bytes, with the bytes of a mask. A blend costs one more for each operand on the
-- stack, which bounds its work. The work of every other operator is bounded by a small constant.
abbrev pub cost_beside : Command → (stack : List ℤ) → ℕ
cost_beside Blend stack = length stack
cost_beside command stack = 0

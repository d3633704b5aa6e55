-- The state of a run before an operator, and changes of it.
use Rattle.std.specs.Prelude.{ℕ, ◌+◌, ◌-◌, ◌/◌, ℤ, pos, ◌==◌, List, [], ◌++◌, length, slice_get, replicate, Option, Some, None, if◌then◌else◌}

-- the operands, the top last; the stems so far; the width, once it is settled; and the stored numbers, which last for the whole run
pub record State : Type 0 where
  pub stack : List ℤ
  pub stems : ℕ
  pub width : Option (Option ℤ)
  pub stored : List ℤ

-- the Note does not specify the numbers stored at the start; here they are 32 zeros
abbrev pub start : State
start = record { stack = []; stems = 0; width = None; stored = replicate 32 (pos 0) }

-- the state with numbers pushed, with another stack, with other stored numbers too, and after an operator that clears the stack
abbrev pub pushed : List ℤ → State → State
pushed numbers st = record { stack = st.stack ++ numbers; stems = st.stems; width = st.width; stored = st.stored }

abbrev pub stacked : List ℤ → State → State
stacked stack st = record { stack = stack; stems = st.stems; width = st.width; stored = st.stored }

abbrev pub holding : (stack stored : List ℤ) → State → State
holding stack stored st = record { stack = stack; stems = st.stems; width = st.width; stored = stored }

abbrev pub cleared : (stems : ℕ) → Option ℤ → State → State
cleared stems width st = record { stack = []; stems = stems; width = Some width; stored = st.stored }

-- The width is settled once: the operand beneath the last u of the stack, or none if they are the whole stack (Technical Note 5177, "Type 2
-- Charstring Organization").
abbrev pub settled : Option (Option ℤ) → (stack : List ℤ) → (u : ℕ) → Option ℤ
settled (Some width) stack u = width
settled None stack u = if u == length stack then None else slice_get stack (length stack - u - 1)

-- each two operands are one stem ("Hint Operators")
abbrev pub stems_after : State → ℕ
stems_after st = st.stems + length st.stack / 2

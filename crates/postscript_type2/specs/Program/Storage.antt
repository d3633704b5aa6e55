-- Operators that store a number and get it again (Technical Note 5177, "Storage Operators"). Given the stored numbers, they work on the
-- stack and return the stored numbers after that.
use Rattle.std.specs.Option.{ok_or}
use Rattle.std.specs.Prelude.{ℤ, nat_abs, List, slice_set, Result, Ok}
use Rattle.postscript_base.specs.Refusal.{Refusal, invalid_operand}
use Rattle.postscript_type2.specs.Program.StackWork.{Work, ◌>>=◌, given, operand, whole_operand, at, push}

-- the stored number at an index; a run has 32, from 0 to 31
abbrev pub stored_at : (stored : List ℤ) → ℤ → Result ℤ Refusal
stored_at stored i = ok_or (at stored i) invalid_operand

-- stored number i becomes a
abbrev pub storing : (stored : List ℤ) → Work (List ℤ)
storing stored = do
  i ← whole_operand
  a ← operand
  _ ← given (stored_at stored i)
  given (Ok (slice_set stored (nat_abs i) a))

-- stored number i is pushed
abbrev pub fetching : (stored : List ℤ) → Work (List ℤ)
fetching stored = do
  i ← whole_operand
  x ← given (stored_at stored i)
  _ ← push x
  given (Ok stored)

-- Works on a stack of operands. Its top is written last.
use Rattle.std.specs.Option.{ok_or}
use Rattle.std.specs.Prelude.{ℕ, ◌-◌, ℤ, pos, negsuc, nat_lt, List, [], ◌∷◌, ◌++◌, length, take, slice_get, Option, Some, None, Result, Ok, Err, if◌then◌else◌}
use Rattle.postscript_base.specs.Refusal.{Refusal, expected_operand, expected_integer, expected_more_operands}
use Rattle.postscript_type2.specs.Number.{to_int}

-- the value of a work and the stack that it leaves, or an error
abbrev pub Work : Type 0 → Type 0
Work A = List ℤ → Result (A × List ℤ) Refusal

abbrev pub after : {A B : Type 0} → Result (A × List ℤ) Refusal → (A → Work B) → Result (B × List ℤ) Refusal
after (Ok done) next = next done.0 done.1
after (Err e) next = Err e

-- one work after another; the first error is the result
infixl 10 ◌>>=◌
abbrev pub ◌>>=◌ : {A B : Type 0} → Work A → (A → Work B) → Work B
(first >>= next) stack = after (first stack) next

infixl 10 ◌>>◌
abbrev pub ◌>>◌ : {A B : Type 0} → Work A → Work B → Work B
first >> second = first >>= λ _. second

-- a known result; the stack is unchanged
abbrev pub given : {A : Type 0} → Result A Refusal → Work A
given (Ok x) stack = Ok (x, stack)
given (Err e) stack = Err e

-- the top, and the stack without it
abbrev pub top_of : Option ℤ → Refusal → Work ℤ
top_of (Some top) e beneath = Ok (top, beneath)
top_of None e beneath = Err e

abbrev pub pop : Refusal → Work ℤ
pop e stack = top_of (slice_get stack (length stack - 1)) e (take (length stack - 1) stack)

-- the operand on top, which is popped
abbrev pub operand : Work ℤ
operand = pop expected_operand

-- the whole number on top, which is popped
abbrev pub whole_operand : Work ℤ
whole_operand = do
  bits ← pop expected_integer
  given (ok_or (to_int bits) expected_integer)

-- the operand i below the top, which stays
abbrev pub operand_below : ℕ → Work ℤ
operand_below i stack =
    given (ok_or (if nat_lt i (length stack) then slice_get stack (length stack - 1 - i) else None) expected_more_operands) stack

-- the item at an index, counted from 0
abbrev pub at : {A : Type 0} → List A → ℤ → Option A
at xs (pos n) = slice_get xs n
at xs (negsuc n) = None

abbrev pub push : ℤ → Work (Unit {0})
push x stack = Ok (tt, stack ++ x ∷ [])

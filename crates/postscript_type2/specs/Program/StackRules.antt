-- The effect of each operator on the stack and the stored numbers, with one rule for each case (Technical Note 5177, "Arithmetic Operators"
-- to "Conditional Operators"). The top of a stack is written last, and numbers are bits, 65536 for a one.
use Rattle.std.specs.Ordering.{int_eq}
use Rattle.std.specs.Prelude.{◌≡◌, ◌≢◌, ℕ, ◌+◌, ◌*◌, ◌^◌, ◌<◌, ◌≤◌, ℤ, pos, negsuc, neg_ℤ, nat_abs, ◌+ℤ◌, ◌-ℤ◌, ◌*ℤ◌, ◌≤ℤ◌, ◌<ℤ◌, ◌&&◌, ◌||◌, not, List, [], ◌∷◌, ◌++◌, length, slice_get, slice_set, Some}
use Rattle.postscript_base.specs.Refusal.{Refusal, expected_operand, expected_integer, expected_more_operands, invalid_operand, overflow, zero_divisor, negative_root}
use Rattle.postscript_type2.specs.declared.operation.Operator.{Operator}
use Rattle.postscript_type2.specs.declared.operation.Operator.TheVariants.{And, Or, Not, Abs, Add, Sub, Div, Neg, Eq, Drop, Put, Get, IfElse, Mul, Sqrt, Dup, Exch, Index, Roll}
use Rattle.postscript_type2.specs.Number.{whole}
use Rattle.postscript_type2.specs.Program.FixedPoint.{cut, truth, is_true}
use Rattle.postscript_type2.specs.Program.Stacks.{IsRolled, distance}

-- bits that fit in 32 bits
pub record IsHeld (bits : ℤ) : Type 0 where
  pub low : neg_ℤ (pos (2 ^ 31)) ≤ℤ bits
  pub high : bits <ℤ pos (2 ^ 31)

-- The exact result of an arithmetic operator on the operands at the end of the stack. A product and a quotient are rounded towards zero.
pub data HasResult : Operator → (taken : List ℤ) → ℤ → Type 0 where
  abs : (a : ℤ) → HasResult Abs (a ∷ []) (pos (nat_abs a))
  neg : (a : ℤ) → HasResult Neg (a ∷ []) (neg_ℤ a)
  add : (a b : ℤ) → HasResult Add (a ∷ b ∷ []) (a +ℤ b)
  sub : (a b : ℤ) → HasResult Sub (a ∷ b ∷ []) (a -ℤ b)
  mul : (a b : ℤ) → HasResult Mul (a ∷ b ∷ []) (cut (a *ℤ b) (pos 65536))
  div : (a b : ℤ) → b ≢ pos 0 → HasResult Div (a ∷ b ∷ []) (cut (a *ℤ pos 65536) b)

-- What an operator leaves of the operands at the end of the stack.
pub data Leaves : Operator → (taken left : List ℤ) → Type 0 where
  result : (op : Operator) (taken : List ℤ) (x : ℤ) → HasResult op taken x → IsHeld x → Leaves op taken (x ∷ [])
  -- the square root, rounded down
  sqrt : (a r : ℕ) → r * r ≤ a * 65536 → a * 65536 < (r + 1) * (r + 1) → Leaves Sqrt (pos a ∷ []) (pos r ∷ [])
  -- a one or a zero
  and : (a b : ℤ) → Leaves And (a ∷ b ∷ []) (truth (is_true a && is_true b) ∷ [])
  or : (a b : ℤ) → Leaves Or (a ∷ b ∷ []) (truth (is_true a || is_true b) ∷ [])
  negated : (a : ℤ) → Leaves Not (a ∷ []) (truth (not (is_true a)) ∷ [])
  eq : (a b : ℤ) → Leaves Eq (a ∷ b ∷ []) (truth (int_eq a b) ∷ [])
  if_not_above : (p q v w : ℤ) → v ≤ℤ w → Leaves IfElse (p ∷ q ∷ v ∷ w ∷ []) (p ∷ [])
  if_above : (p q v w : ℤ) → w <ℤ v → Leaves IfElse (p ∷ q ∷ v ∷ w ∷ []) (q ∷ [])
  drop : (a : ℤ) → Leaves Drop (a ∷ []) []
  exch : (a b : ℤ) → Leaves Exch (a ∷ b ∷ []) (b ∷ a ∷ [])
  dup : (a : ℤ) → Leaves Dup (a ∷ []) (a ∷ a ∷ [])
  -- the operand with i others above it, or the top if i is negative
  index : (x : ℤ) (above : List ℤ) (i : ℤ) → distance i ≡ length above → Leaves Index (x ∷ (above ++ whole i ∷ [])) (x ∷ (above ++ x ∷ []))
  roll : (shift : ℤ) (items rolled : List ℤ) → IsRolled shift items rolled →
      Leaves Roll (items ++ (whole (pos (length items)) ∷ whole shift ∷ [])) rolled

-- The same with the stored numbers before and after it. Only the two storage operators use these.
pub data Makes (stored : List ℤ) : Operator → (taken left after : List ℤ) → Type 0 where
  stored_stay : (op : Operator) (taken left : List ℤ) → Leaves op taken left → Makes stored op taken left stored
  put : (a : ℤ) (i : ℕ) → i < length stored → Makes stored Put (a ∷ whole (pos i) ∷ []) [] (slice_set stored i a)
  get : (i : ℕ) (x : ℤ) → slice_get stored i ≡ Some x → Makes stored Get (whole (pos i) ∷ []) (x ∷ []) stored

-- the number of operands that an operator pops, if this is all that it needs
abbrev pub pops : Operator → ℕ
pops Abs = 1
pops Neg = 1
pops Sqrt = 1
pops Not = 1
pops Drop = 1
pops Add = 2
pops Sub = 2
pops Mul = 2
pops Div = 2
pops And = 2
pops Or = 2
pops Eq = 2
pops Exch = 2
pops IfElse = 4
pops op = 0

-- an operator whose top operand is a number that selects or counts others
pub data NamesByTop : Operator → Type 0 where
  index_names : NamesByTop Index
  roll_names : NamesByTop Roll
  put_names : NamesByTop Put
  get_names : NamesByTop Get

-- there is no whole number on top: the stack is empty, or its top is a fraction
pub data HasNoWholeTop : List ℤ → Type 0 where
  empty : HasNoWholeTop []
  fraction : (beneath : List ℤ) (x : ℤ) → ((n : ℤ) → x ≢ whole n) → HasNoWholeTop (beneath ++ x ∷ [])

-- a number without a stored number: it is negative, or past the last one
pub data NamesNone (stored : List ℤ) : ℤ → Type 0 where
  below_zero : (n : ℕ) → NamesNone stored (negsuc n)
  past_last : (n : ℕ) → length stored ≤ n → NamesNone stored (pos n)

-- Why such an operator fails. The causes are in order: each rule is for stacks to which no rule before it applies.
pub data IsRefusedOn (stored : List ℤ) : Operator → (stack : List ℤ) → Refusal → Type 0 where
  too_few : (op : Operator) (stack : List ℤ) → length stack < pops op → IsRefusedOn stored op stack expected_operand
  zero_divisor_on_top : (beneath : List ℤ) (a : ℤ) → IsRefusedOn stored Div (beneath ++ (a ∷ pos 0 ∷ [])) zero_divisor
  root_of_negative : (beneath : List ℤ) (n : ℕ) → IsRefusedOn stored Sqrt (beneath ++ negsuc n ∷ []) negative_root
  past_range : (op : Operator) (beneath taken : List ℤ) (x : ℤ) → HasResult op taken x → ¬ IsHeld x →
      IsRefusedOn stored op (beneath ++ taken) overflow
  nothing_to_double : IsRefusedOn stored Dup [] expected_more_operands
  no_whole_top : (op : Operator) (stack : List ℤ) → NamesByTop op → HasNoWholeTop stack → IsRefusedOn stored op stack expected_integer
  -- index: not enough operands are beneath
  index_too_deep : (beneath : List ℤ) (i : ℤ) → length beneath ≤ distance i →
      IsRefusedOn stored Index (beneath ++ whole i ∷ []) expected_more_operands
  -- roll: the span is not a whole number, is negative, or is longer than the stack
  no_whole_span : (beneath : List ℤ) (shift : ℤ) → HasNoWholeTop beneath →
      IsRefusedOn stored Roll (beneath ++ whole shift ∷ []) expected_integer
  span_below_zero : (beneath : List ℤ) (n : ℕ) (shift : ℤ) →
      IsRefusedOn stored Roll (beneath ++ (whole (negsuc n) ∷ whole shift ∷ [])) invalid_operand
  span_too_long : (beneath : List ℤ) (n : ℕ) (shift : ℤ) → length beneath < n →
      IsRefusedOn stored Roll (beneath ++ (whole (pos n) ∷ whole shift ∷ [])) expected_more_operands
  nothing_to_put : (i : ℤ) → IsRefusedOn stored Put (whole i ∷ []) expected_operand
  put_nowhere : (beneath : List ℤ) (a i : ℤ) → NamesNone stored i → IsRefusedOn stored Put (beneath ++ (a ∷ whole i ∷ [])) invalid_operand
  get_nowhere : (beneath : List ℤ) (i : ℤ) → NamesNone stored i → IsRefusedOn stored Get (beneath ++ whole i ∷ []) invalid_operand

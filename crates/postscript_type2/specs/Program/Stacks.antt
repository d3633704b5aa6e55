-- Operators that only work on the stack (Technical Note 5177, "Arithmetic Operators" and "Conditional Operators").
use Rattle.std.specs.Int.{int_rem_euclid}
use Rattle.std.specs.Prelude.{◌≡◌, ℕ, suc, ◌-◌, ◌<◌, ℤ, pos, negsuc, ◌+ℤ◌, nat_abs, int_le, nat_lt, List, [], ◌∷◌, ◌++◌, length, take, drop, slice_get, slice_set, Result, Ok, Err, if◌then◌else◌}
use Rattle.postscript_base.specs.Refusal.{Refusal, expected_more_operands, invalid_operand}
use Rattle.postscript_type2.specs.Program.StackWork.{Work, ◌>>=◌, ◌>>◌, given, operand, whole_operand, operand_below, push}

-- a number for a number
abbrev pub one_to_one : (ℤ → Result ℤ Refusal) → Work (Unit {0})
one_to_one f = do
  a ← operand
  x ← given (f a)
  push x

-- a number for two numbers, the second of which was on top
abbrev pub two_to_one : (ℤ → ℤ → Result ℤ Refusal) → Work (Unit {0})
two_to_one f = do
  b ← operand
  a ← operand
  x ← given (f a b)
  push x

-- for p, q, v and w: p if v ≤ w, otherwise q
abbrev pub choice : Work (Unit {0})
choice = do
  w ← operand
  v ← operand
  q ← operand
  p ← operand
  push (if int_le v w then p else q)

-- the top is removed
abbrev pub removal : Work (Unit {0})
removal = do
  _ ← operand
  given (Ok tt)

-- the two topmost operands are exchanged
abbrev pub exchange : Work (Unit {0})
exchange = do
  b ← operand
  a ← operand
  push b
  push a

-- the top is pushed again
abbrev pub duplication : Work (Unit {0})
duplication = do
  top ← operand_below 0
  push top

-- a number as a distance below the top; a negative one means the top
abbrev pub distance : ℤ → ℕ
distance (pos n) = n
distance (negsuc n) = 0

-- an operand from further down is pushed again
abbrev pub copy : Work (Unit {0})
copy = do
  i ← whole_operand
  x ← operand_below (distance i)
  push x

-- the index of item k, out of `count`, after a roll: (k + shift) mod count
abbrev pub place : (shift : ℤ) → (count k : ℕ) → ℕ
place shift count k = nat_abs (int_rem_euclid (pos k +ℤ shift) (pos count))

-- the same number of items, and each at its index after the roll
pub record IsRolled (shift : ℤ) (xs ys : List ℤ) : Type 0 where
  pub as_many : length ys ≡ length xs
  pub items : (k : ℕ) → k < length xs → slice_get ys (place shift (length xs) k) ≡ slice_get xs k

-- each of these items, the first of which is item k out of `count`, is put at its index
abbrev pub put_each : (shift : ℤ) → (count k : ℕ) → (items : List ℤ) → List ℤ → List ℤ
put_each shift count k [] ys = ys
put_each shift count k (item ∷ items) ys = put_each shift count (suc k) items (slice_set ys (place shift count k) item)

-- the rolled list: item k goes to the index (k + shift) mod the number of items
abbrev pub rolled : (shift : ℤ) → List ℤ → List ℤ
rolled shift xs = put_each shift (length xs) 0 xs xs

-- a stack whose topmost items are rolled, as many as `span`
abbrev pub rolled_top : (shift : ℤ) → (span : ℕ) → List ℤ → List ℤ
rolled_top shift span stack = take (length stack - span) stack ++ rolled shift (drop (length stack - span) stack)

abbrev pub roll_by : (shift span : ℤ) → Work (Unit {0})
roll_by shift (pos span) stack = if nat_lt (length stack) span then Err expected_more_operands else Ok (tt, rolled_top shift span stack)
roll_by shift (negsuc span) stack = Err invalid_operand

abbrev pub roll : Work (Unit {0})
roll = do
  shift ← whole_operand
  span ← whole_operand
  roll_by shift span

-- A dictionary, defined without a parser: operations one after the other, and possibly an incomplete one at the end (Technical Note 5176,
-- "DICT Data").
use Rattle.std.specs.Prelude.{◌≡◌, ◌≢◌, ◌⊎◌, ℕ, Bool, true, false, ◌&&◌, ◌||◌, List, [], ◌∷◌, length, drop, Option, Some, None, ◌==◌, nat_lt, if◌then◌else◌}
use Rattle.std.specs.Option.{option_or}
use Rattle.std.specs.List.{prefix_len}
use Rattle.std.specs.FinMap.{get}
use Rattle.std.specs.Ordering.{eq_by_cmp}
use Rattle.postscript_base.specs.Tape.Outcome.{Got, Fault, Past}
use Rattle.postscript_base.specs.Refusal.{Refusal, malformed_number, out_of_range_number, unknown_operator}
use Rattle.postscript_base.specs.Compact1.Decimal.{Decimal}
use Rattle.postscript_base.specs.Compact1.Nibbles.{is_in_text, nibbles}
use Rattle.postscript_base.specs.Compact1.Operators.{operator_cmp}
use Rattle.postscript_base.specs.Compact1.Operation.{Operation, operation}
use Rattle.postscript_base.specs.Compact1.Dictionary.{Dictionary, dictionary}
use Rattle.postscript_base.specs.declared.compact1.operator.Operator.{Operator}
use Rattle.postscript_base.specs.Compact1.OperationLaw.{OperandsAt, OperationAt, BadAt}

-- operations one after the other, from the offset `place` to the offset `next`
abbrev pub OperationsAt : List ℕ → ℕ → List Operation → ℕ → Type 0
OperationsAt bytes place [] next = next ≡ place
OperationsAt bytes place (operation ∷ operations) next = (at : ℕ) × OperationAt bytes place operation at
    × OperationsAt bytes at operations next

-- the nibbles have neither the end of a real nor the reserved value
abbrev pub is_open : List ℕ → Bool
is_open all = prefix_len is_in_text all == length all

-- after the first byte of an operand the bytes end too early
abbrev pub is_cut_operand : ℕ → List ℕ → Bool
is_cut_operand first rest =
    if first == 0x1c then nat_lt (length rest) 2
    else if first == 0x1d then nat_lt (length rest) 4
    else if first == 0x1e then is_open (nibbles rest)
    else if nat_lt first 0xf7 then false
    else if nat_lt first 0xff then nat_lt (length rest) 1
    else false

-- no bytes, a truncated operand, or only the byte 0x0c
abbrev pub is_cut : List ℕ → Bool
is_cut [] = true
is_cut (first ∷ rest) = is_cut_operand first rest || ((first == 0x0c) && nat_lt (length rest) 1)

-- A rest without an operator: operands, and at most a truncated number or operator after them.
pub record UnfinishedAt (bytes : List ℕ) (place : ℕ) : Type 0 where
  pub operands : List Decimal
  pub next : ℕ
  pub are : OperandsAt bytes place operands next
  pub cut : is_cut (drop next bytes) ≡ true

-- the operands of the last operation with this operator
abbrev pub last_of : List Operation → Operator → Option (List Decimal)
last_of [] q = None
last_of (operation ∷ operations) q =
    option_or (last_of operations q) (if eq_by_cmp operator_cmp q operation.0 then Some operation.1 else None)

-- From the offset on, the bytes are operations and possibly an incomplete one. The map has exactly the operators that occur, each with the
-- operands of its last operation.
pub record IsDictionary (bytes : List ℕ) (place : ℕ) (map : Dictionary) : Type 0 where
  pub operations : List Operation
  pub next : ℕ
  pub are : OperationsAt bytes place operations next
  pub rest : UnfinishedAt bytes next
  pub last : (q : Operator) → get map q ≡ last_of operations q

-- After some operations and some operands, reading a number or an operator fails with this error. The end does not truncate it.
pub record IsRefused (bytes : List ℕ) (place : ℕ) (refusal : Refusal) : Type 0 where
  pub operations : List Operation
  pub front : ℕ
  pub are : OperationsAt bytes place operations front
  pub operands : List Decimal
  pub next : ℕ
  pub stand : OperandsAt bytes front operands next
  pub bad : BadAt bytes next refusal
  pub whole : is_cut (drop next bytes) ≡ false

-- A law: reading bytes returns a dictionary exactly if they are one, and the next offset is the end of the bytes. It fails exactly at the
-- first bad number or operator, with one of three errors. It never seeks past the end.
pub record ReadsDictionaries : Type 0 where
  pub all : (bytes : List ℕ) (place : ℕ) (map : Dictionary) → IsDictionary bytes place map → dictionary bytes place ≡ Got map (length bytes)
  pub only : (bytes : List ℕ) (place : ℕ) (map : Dictionary) (next : ℕ) → dictionary bytes place ≡ Got map next →
      IsDictionary bytes place map × (next ≡ length bytes)
  pub refused : (bytes : List ℕ) (place : ℕ) (refusal : Refusal) → IsRefused bytes place refusal → dictionary bytes place ≡ Fault refusal
  pub refused_only : (bytes : List ℕ) (place : ℕ) (refusal : Refusal) → dictionary bytes place ≡ Fault refusal →
      IsRefused bytes place refusal
  pub refusals : (bytes : List ℕ) (place : ℕ) (refusal : Refusal) → dictionary bytes place ≡ Fault refusal → (refusal ≡ malformed_number)
      ⊎ ((refusal ≡ out_of_range_number) ⊎ (refusal ≡ unknown_operator))
  pub never_past : (bytes : List ℕ) (place : ℕ) → dictionary bytes place ≢ Past

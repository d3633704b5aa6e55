-- Phrases at the front of bytes.
use Rattle.std.specs.Prelude.{ℕ, zero, suc, ◌+◌, ℤ, Bool, nat_lt, ◌==◌, ◌||◌, List, [], ◌∷◌, ◌++◌, Option, Some, None, if◌then◌else◌}
use Rattle.postscript_base.specs.Tape.Outcome.{Outcome, Got, Fault, Past}
use Rattle.postscript_base.specs.Refusal.{Refusal, unexpected_eof, unknown_operator}
use Rattle.postscript_type2.specs.declared.operation.Operator.{Operator}
use Rattle.postscript_type2.specs.Number.{spelled}
use Rattle.postscript_type2.specs.Operation.Operators.{operator_of}

-- Complete: the numbers, the operator, and the number of bytes of the phrase after its first one. NoPhrase: why there is none.
pub data Parsed : Type 0 where
  Complete : (numbers : List ℤ) (operator : Operator) (more : ℕ) → Parsed
  NoPhrase : Refusal → Parsed

-- whether a number begins with this byte
abbrev pub is_number : ℕ → Bool
is_number first = (first == 0x1c) || nat_lt 0x1f first

-- a phrase, counted with one more byte before it, which is not its own
abbrev pub passed : Parsed → Parsed
passed (Complete numbers op more) = Complete numbers op (suc more)
passed (NoPhrase e) = NoPhrase e

-- a phrase with a number before it
abbrev pub with_number : ℤ → Parsed → Parsed
with_number x (Complete numbers op more) = Complete (x ∷ numbers) op (suc more)
with_number x (NoPhrase e) = NoPhrase e

-- a number, and the phrase after its bytes
abbrev pub numbered : Outcome ℤ → (ℕ → Parsed) → Parsed
numbered (Got x more) behind = with_number x (behind more)
numbered (Fault refusal) behind = NoPhrase refusal
numbered Past behind = NoPhrase unexpected_eof

-- only an operator, of one byte and `more` others
abbrev pub with_operator : ℕ → Option Operator → Parsed
with_operator more (Some op) = Complete [] op more
with_operator more None = NoPhrase unknown_operator

-- the operator with the code 0x0c00 plus the second byte
abbrev pub escaped : List ℕ → Parsed
escaped [] = NoPhrase unexpected_eof
escaped (second ∷ r) = with_operator 1 (operator_of (0x0c00 + second))

-- the operator that begins with this byte
abbrev pub ending : ℕ → List ℕ → Parsed
ending first r = if first == 0x0c then escaped r else with_operator 0 (operator_of first)

-- the phrase after the first k bytes: any number of numbers, then one operator
abbrev pub phrase_after : (k : ℕ) → List ℕ → Parsed
phrase_after k [] = NoPhrase unexpected_eof
phrase_after (suc k) (b ∷ r) = passed (phrase_after k r)
phrase_after zero (b ∷ r) = if is_number b then numbered (spelled b r 0) (λ more. phrase_after more r) else ending b r

-- the phrase at the front
abbrev pub phrase : List ℕ → Parsed
phrase bytes = phrase_after 0 bytes

-- a phrase with numbers and k bytes before it
abbrev pub fronted : (stack : List ℤ) → (k : ℕ) → Parsed → Parsed
fronted stack k (Complete numbers op more) = Complete (stack ++ numbers) op (k + more)
fronted stack k (NoPhrase e) = NoPhrase e

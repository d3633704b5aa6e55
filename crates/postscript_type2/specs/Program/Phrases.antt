-- The encoding of phrases (Technical Note 5177, "Charstring Number Encoding" and "Charstring Operator Encoding").
use Rattle.std.specs.Prelude.{◌≡◌, ◌≢◌, ℕ, ◌+◌, ◌<◌, ◌≤◌, ℤ, pos, ◌-ℤ◌, List, [], ◌∷◌, ◌++◌, length, take, drop, Some, None}
use Rattle.postscript_base.specs.Numbers.{big_endian, two_sided, above, below}
use Rattle.postscript_base.specs.Tape.Outcome.{Got}
use Rattle.postscript_base.specs.Refusal.{Refusal, unexpected_eof, unknown_operator}
use Rattle.postscript_type2.specs.declared.operation.Operator.{Operator}
use Rattle.postscript_type2.specs.Number.{number, whole}
use Rattle.postscript_type2.specs.Operation.Operators.{operator_of}

-- The bytes of a number, and its bits.
pub data IsNumber : List ℕ → ℤ → Type 0 where
  -- a whole number of two bytes after 1c
  of_two_bytes : (a b : ℕ) → IsNumber (0x1c ∷ a ∷ b ∷ []) (whole (two_sided 0x8000 (big_endian (a ∷ b ∷ []))))
  -- one byte: from -107 to 107
  small : (first : ℕ) → 0x20 ≤ first → first < 0xf7 → IsNumber (first ∷ []) (whole (pos first -ℤ pos 139))
  -- two bytes: from 108 to 1131, and from -108 to -1131
  positive : (first second : ℕ) → 0xf7 ≤ first → first < 0xfb → IsNumber (first ∷ second ∷ []) (whole (above first second))
  negative : (first second : ℕ) → 0xfb ≤ first → first < 0xff → IsNumber (first ∷ second ∷ []) (whole (below first second))
  -- four bytes after ff: the bits themselves
  of_bits : (first a b c d : ℕ) → 0xff ≤ first →
      IsNumber (first ∷ a ∷ b ∷ c ∷ d ∷ []) (two_sided 0x80000000 (big_endian (a ∷ b ∷ c ∷ d ∷ [])))

-- A number is at the offset `place`: its spelling is the bytes there, and `next` is the offset after it.
pub record IsNumberAt (bytes : List ℕ) (place : ℕ) (bits : ℤ) (next : ℕ) : Type 0 where
  pub spelling : List ℕ
  pub is : IsNumber spelling bits
  pub stands : take (length spelling) (drop place bytes) ≡ spelling
  pub behind : next ≡ place + length spelling

-- A law: reading returns a number exactly if it is there.
pub record ReadsNumbers : Type 0 where
  pub all : (bytes : List ℕ) (place : ℕ) (bits : ℤ) (next : ℕ) → IsNumberAt bytes place bits next → number bytes place ≡ Got bits next
  pub only : (bytes : List ℕ) (place : ℕ) (bits : ℤ) (next : ℕ) → number bytes place ≡ Got bits next → IsNumberAt bytes place bits next

-- The bytes of a phrase: any number of numbers, and then one operator of one or two bytes.
pub data IsPhrase : List ℕ → List ℤ → Operator → Type 0 where
  operator : (code : ℕ) (op : Operator) → code < 0x20 → operator_of code ≡ Some op → IsPhrase (code ∷ []) [] op
  escaped_operator : (second : ℕ) (op : Operator) → operator_of (0x0c00 + second) ≡ Some op → IsPhrase (0x0c ∷ second ∷ []) [] op
  after_number : (number more : List ℕ) (x : ℤ) (xs : List ℤ) (op : Operator) → IsNumber number x → IsPhrase more xs op →
      IsPhrase (number ++ more) (x ∷ xs) op

-- Why there is no phrase at the front of these bytes: they end before its operator, or no operator has the code.
pub data HasNoPhrase : List ℕ → Refusal → Type 0 where
  no_operator : HasNoPhrase [] unexpected_eof
  lone_escape : HasNoPhrase (0x0c ∷ []) unexpected_eof
  -- the number at the front is truncated
  cut_number : (bytes missing : List ℕ) (x : ℤ) → bytes ≢ [] → missing ≢ [] → IsNumber (bytes ++ missing) x →
      HasNoPhrase bytes unexpected_eof
  no_such_operator : (code : ℕ) (rest : List ℕ) → code < 0x20 → code ≢ 0x0c → code ≢ 0x1c → operator_of code ≡ None →
      HasNoPhrase (code ∷ rest) unknown_operator
  no_such_escape : (second : ℕ) (rest : List ℕ) → operator_of (0x0c00 + second) ≡ None → HasNoPhrase (0x0c ∷ second ∷ rest) unknown_operator
  -- a number, and no phrase after it
  behind_number : (number rest : List ℕ) (x : ℤ) (e : Refusal) → IsNumber number x → HasNoPhrase rest e → HasNoPhrase (number ++ rest) e

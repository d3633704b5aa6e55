-- The encoding of integers in dictionaries (Technical Note 5176, "DICT Data", Table 3).
use Rattle.std.specs.Prelude.{◌≡◌, ◌⊎◌, ℕ, ◌+◌, ◌≤◌, ◌<◌, ℤ, pos, ◌+ℤ◌, ◌-ℤ◌, ◌*ℤ◌, List, [], ◌∷◌, length, take, drop}
use Rattle.postscript_base.specs.Numbers.{big_endian, two_sided}
use Rattle.postscript_base.specs.Tape.Outcome.{Got}
use Rattle.postscript_base.specs.Compact1.Decimal.{Decimal}
use Rattle.postscript_base.specs.Compact1.Number.{number, whole}

-- The five forms of an integer: its bytes, and its value.
pub data IsInteger : List ℕ → ℤ → Type 0 where
  -- one byte: from -107 to 107
  small : (first : ℕ) → 0x20 ≤ first → first < 0xf7 → IsInteger (first ∷ []) (pos first -ℤ pos 139)
  -- two bytes: from 108 to 1131, and from -108 to -1131
  positive : (first second : ℕ) → 0xf7 ≤ first → first < 0xfb →
      IsInteger (first ∷ second ∷ []) ((pos first -ℤ pos 247) *ℤ pos 256 +ℤ pos second +ℤ pos 108)
  negative : (first second : ℕ) → 0xfb ≤ first → first < 0xff →
      IsInteger (first ∷ second ∷ []) ((pos 251 -ℤ pos first) *ℤ pos 256 -ℤ pos second -ℤ pos 108)
  -- two bytes after 1c, and four after 1d, in two's complement
  of_two_bytes : (a b : ℕ) → IsInteger (0x1c ∷ a ∷ b ∷ []) (two_sided 0x8000 (big_endian (a ∷ b ∷ [])))
  of_four_bytes : (a b c d : ℕ) → IsInteger (0x1d ∷ a ∷ b ∷ c ∷ d ∷ []) (two_sided 0x80000000 (big_endian (a ∷ b ∷ c ∷ d ∷ [])))

-- the bytes at an offset are these (`spelling`)
abbrev pub StandAt : List ℕ → ℕ → List ℕ → Type 0
StandAt bytes place spelling = take (length spelling) (drop place bytes) ≡ spelling

-- An integer is at the offset `place`, and `next` is the offset after it.
pub record IsIntegerAt (bytes : List ℕ) (place : ℕ) (operand : Decimal) (next : ℕ) : Type 0 where
  pub spelling : List ℕ
  pub value : ℤ
  pub is : IsInteger spelling value
  pub stands : StandAt bytes place spelling
  pub same : operand ≡ whole value
  pub behind : next ≡ place + length spelling

-- A law: every integer at an offset is read as its value. A number that is read is such an integer, unless the first byte is 0x1e, which
-- begins a real.
pub record ReadsIntegers : Type 0 where
  pub all : (bytes : List ℕ) (place : ℕ) (operand : Decimal) (next : ℕ) → IsIntegerAt bytes place operand next →
      number bytes place ≡ Got operand next
  pub only : (bytes : List ℕ) (place : ℕ) (operand : Decimal) (next : ℕ) → number bytes place ≡ Got operand next →
      StandAt bytes place (0x1e ∷ []) ⊎ IsIntegerAt bytes place operand next

-- The encoding of numbers in charstrings (Technical Note 5177, "Charstring Number Encoding").
use Rattle.std.specs.List.{flat_map}
use Rattle.std.specs.Prelude.{ℕ, ◌+◌, ◌-◌, ◌/◌, ◌%◌, ◌<◌, ◌≤◌, ℤ, pos, nat_abs, int_lt, nat_lt, List, [], ◌∷◌, length, Option, Some, None, All, if◌then◌else◌}
use Rattle.postscript_type2.specs.Number.{to_int}
use Rattle.postscript_type2.specs.Program.Phrases.{IsNumber}

-- an encoding of a number, and no other encoding in bytes is shorter
pub record IsShortest (bytes : List ℕ) (bits : ℤ) : Type 0 where
  pub is : IsNumber bytes bits
  pub least : (other : List ℕ) → All (λ byte. byte < 256) other → IsNumber other bits → length bytes ≤ length other

-- two bytes, of which the first counts from a base
abbrev pub pair : (first : ℕ) → ℕ → List ℕ
pair first n = (first + n / 256) ∷ n % 256 ∷ []

-- two and four bytes, the high byte first
abbrev pub two_bytes : ℕ → List ℕ
two_bytes n = n / 256 ∷ n % 256 ∷ []

abbrev pub four_bytes : ℕ → List ℕ
four_bytes n = n / 16777216 ∷ n / 65536 % 256 ∷ n / 256 % 256 ∷ n % 256 ∷ []

-- a whole number from 0 on, a negative one by its distance from 0, and any whole number
abbrev pub whole_above : ℕ → List ℕ
whole_above n = if nat_lt n 108 then (139 + n) ∷ [] else if nat_lt n 1132 then pair 247 (n - 108) else 0x1c ∷ two_bytes n

abbrev pub whole_below : ℕ → List ℕ
whole_below n = if nat_lt n 108 then (139 - n) ∷ [] else if nat_lt n 1132 then pair 251 (n - 108) else 0x1c ∷ two_bytes (65536 - n)

abbrev pub whole_text : ℤ → List ℕ
whole_text n = if int_lt n (pos 0) then whole_below (nat_abs n) else whole_above (nat_abs n)

-- the 32 bits of a number, after the byte ff
abbrev pub bits_text : ℤ → List ℕ
bits_text bits = 0xff ∷ four_bytes (if int_lt bits (pos 0) then 4294967296 - nat_abs bits else nat_abs bits)

abbrev pub text_by : ℤ → Option ℤ → List ℕ
text_by bits (Some n) = whole_text n
text_by bits None = bits_text bits

-- a number by its 16.16 bits: a whole number in its shortest encoding, any other number as bits
abbrev pub number_text : ℤ → List ℕ
number_text bits = text_by bits (to_int bits)

abbrev pub numbers_text : List ℤ → List ℕ
numbers_text nums = flat_map number_text nums

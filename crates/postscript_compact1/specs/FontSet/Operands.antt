-- The operands of a dictionary that describe a font: integers, and offsets from the start of the font (Technical Note 5176, "Top DICT
-- Data", "Private DICT Data").
use Rattle.std.specs.Prelude.{ℕ, ◌+◌, ◌^◌, ℤ, pos, negsuc, ◌+ℤ◌, ◌==◌, nat_lt, Bool, false, Option, Some, None, if◌then◌else◌}
use Rattle.std.specs.Option.{is_none}
use Rattle.postscript_base.specs.Refusal.{OfMalformed, OfMissing, unknown_char_string_format, out_of_range_offset}
use Rattle.postscript_base.specs.Tape.Outcome.{Reading, ◌>>=◌, pure, fault}
use Rattle.postscript_base.specs.Compact1.Decimal.{Decimal, to_i32}
use Rattle.postscript_base.specs.Compact1.Defaults.{look, first_of, first_two_of}
use Rattle.postscript_base.specs.Compact1.Dictionary.{Dictionary}
use Rattle.postscript_base.specs.declared.compact1.operator.Operator.{Operator}
use Rattle.postscript_base.specs.declared.compact1.operator.Operator.TheVariants.{CharStringType, Private}
use Rattle.postscript_compact1.specs.declared.font_set.manner.Manner.{Manner}
use Rattle.postscript_compact1.specs.declared.font_set.manner.Manner.TheVariants.{Strict, Lenient}

-- operands are missing, and the reading is lenient
abbrev pub goes_without : {A : Type 0} → Manner → Option A → Bool
goes_without Strict operands = false
goes_without Lenient operands = is_none operands

-- an operand as an integer of 32 bits
abbrev pub number_of : Operator → Option ℤ → Reading ℤ
number_of operator None = fault (OfMalformed operator)
number_of operator (Some n) = pure n

-- the first operand of an operator
abbrev pub number_of_first : Operator → Option Decimal → Reading ℤ
number_of_first operator None = fault (OfMissing operator)
number_of_first operator (Some x) = number_of operator (to_i32 x)

unfoldable pub first : Dictionary → Operator → Reading ℤ
first map operator = number_of_first operator (first_of (look map operator))

-- The first two operands. Both must exist before either is converted.
abbrev pub numbers_of_two : Operator → Option (Decimal × Decimal) → Reading (ℤ × ℤ)
numbers_of_two operator None = fault (OfMissing operator)
numbers_of_two operator (Some p) = do
  x ← number_of operator (to_i32 p.0)
  y ← number_of operator (to_i32 p.1)
  pure (x, y)

unfoldable pub two : Dictionary → Operator → Reading (ℤ × ℤ)
two map operator = numbers_of_two operator (first_two_of (look map operator))

-- a number of bytes
abbrev pub size_of : ℤ → Reading ℕ
size_of (pos n) = pure n
size_of (negsuc n) = fault out_of_range_offset

-- an offset that fits in 64 bits
abbrev pub in_range : ℕ → Reading ℕ
in_range place = if nat_lt place (2 ^ 64) then pure place else fault out_of_range_offset

-- the offset in the bytes, from an offset relative to the start of the font
abbrev pub place_of : ℕ → ℤ → Reading ℕ
place_of start offset = size_of offset >>= λ n. in_range (start + n)

-- an offset that is the sum of a base and the first operand of an operator
unfoldable pub place_at : ℕ → ℕ → Dictionary → Operator → Reading ℕ
place_at start base map operator = first map operator >>= λ z. place_of start (pos base +ℤ z)

-- charstrings are of Type 2
abbrev pub only_two : ℤ → Reading (Unit {0})
only_two (pos n) = if n == 2 then pure tt else fault unknown_char_string_format
only_two (negsuc n) = fault unknown_char_string_format

unfoldable pub type_two : Dictionary → Reading (Unit {0})
type_two map = first map CharStringType >>= only_two

-- the size of the Private DICT, its offset from the start of the font, and its offset in the bytes
abbrev pub bounded : ℕ → ℤ × ℤ → Reading (ℕ × ℕ × ℕ)
bounded start p = do
  size ← size_of p.0
  offset ← size_of p.1
  place ← in_range (start + offset)
  pure (size, offset, place)

unfoldable pub bounds : ℕ → Dictionary → Reading (ℕ × ℕ × ℕ)
bounds start map = two map Private >>= bounded start

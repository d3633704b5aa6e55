-- The errors of reading, of execution and of operators, with their data.
use Rattle.std.specs.Prelude.{ℕ}
use Rattle.postscript_base.specs.declared.compact1.operator.Operator.{Operator}
use Rattle.postscript_base.specs.declared.error.Part.{Part}

-- An error in contracts. It is only a number (Numbered), or the unsupported part of the formats (OfPart), or the operator of a dictionary
-- that has malformed operands (OfMalformed) or is missing (OfMissing).
pub data Refusal : Type 0 where
  Numbered : ℕ → Refusal
  OfPart : Part → Refusal
  OfMalformed : Operator → Refusal
  OfMissing : Operator → Refusal

-- the input ends early, or the tape has a fault of this kind
abbrev pub unexpected_eof : Refusal
unexpected_eof = Numbered 1

-- the tape has any other fault
abbrev pub io : Refusal
io = Numbered 2

-- out of memory
abbrev pub memory : Refusal
memory = Numbered 3

-- the offset of the tape does not increase
abbrev pub tape_stuck : Refusal
tape_stuck = Numbered 4

-- the offset size is 0 or greater than 4
abbrev pub malformed_offset : Refusal
malformed_offset = Numbered 5

-- the offsets of an INDEX do not begin with 1, or are not in order
abbrev pub malformed_index : Refusal
malformed_index = Numbered 6

-- the bytes spell no number
abbrev pub malformed_number : Refusal
malformed_number = Numbered 7

-- a real has no operand: too many digits, or the exponent is out of range
abbrev pub out_of_range_number : Refusal
out_of_range_number = Numbered 8

-- no operator has the code
abbrev pub unknown_operator : Refusal
unknown_operator = Numbered 9

-- the ranges of a charset cover more glyphs than there are, there are no glyphs, or the format is not the one expected
abbrev pub malformed_char_set : Refusal
malformed_char_set = Numbered 10

-- no charset has the format
abbrev pub unknown_char_set_format : Refusal
unknown_char_set_format = Numbered 11

-- the charstrings are not of type 2
abbrev pub unknown_char_string_format : Refusal
unknown_char_string_format = Numbered 12

-- a size, an offset or a sum of offsets that is negative or does not fit in 64 bits
abbrev pub out_of_range_offset : Refusal
out_of_range_offset = Numbered 15

-- an operator takes an operand off an empty stack
abbrev pub expected_operand : Refusal
expected_operand = Numbered 17

-- an operator takes an integer off an empty stack, or the operand is not an integer
abbrev pub expected_integer : Refusal
expected_integer = Numbered 18

-- the stack has fewer operands than `dup`, `index` or `roll` needs
abbrev pub expected_more_operands : Refusal
expected_more_operands = Numbered 19

-- the stack has too few operands for an operator that draws or declares stems
abbrev pub malformed_operands : Refusal
malformed_operands = Numbered 20

-- the count of a `roll` is negative, or the index of a stored number is not from 0 to 31
abbrev pub invalid_operand : Refusal
invalid_operand = Numbered 21

-- no subroutine has the number
abbrev pub missing_subroutine : Refusal
missing_subroutine = Numbered 22

-- the outermost code returns
abbrev pub return_without_caller : Refusal
return_without_caller = Numbered 23

-- `endchar` is in a subroutine, and bytes follow in it or in one of the subroutines that led to it
abbrev pub trailing_data : Refusal
trailing_data = Numbered 24

-- calls are nested too deep
abbrev pub too_deep : Refusal
too_deep = Numbered 25

-- a number is out of the range of operands
abbrev pub overflow : Refusal
overflow = Numbered 26

-- a division by zero
abbrev pub zero_divisor : Refusal
zero_divisor = Numbered 27

-- the square root of a negative number
abbrev pub negative_root : Refusal
negative_root = Numbered 28

-- more stems than 32 bits can count
abbrev pub too_many_stems : Refusal
too_many_stems = Numbered 29

-- an earlier call of the program failed
abbrev pub already_failed : Refusal
already_failed = Numbered 30

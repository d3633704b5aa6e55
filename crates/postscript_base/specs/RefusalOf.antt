-- The `Refusal` of an error, and its number.
use Rattle.std.specs.Prelude.{ℕ}
use Rattle.postscript_base.specs.declared.error.Error.{Error}
use Rattle.postscript_base.specs.declared.error.Error.TheVariants as errors
use Rattle.postscript_base.specs.Refusal.{Refusal, Numbered, OfPart, OfMalformed, OfMissing, unexpected_eof, io, memory, tape_stuck, malformed_offset, malformed_index, malformed_number, out_of_range_number, unknown_operator, malformed_char_set, unknown_char_set_format, unknown_char_string_format, out_of_range_offset, expected_operand, expected_integer, expected_more_operands, malformed_operands, invalid_operand, missing_subroutine, return_without_caller, trailing_data, too_deep, overflow, zero_divisor, negative_root, too_many_stems, already_failed}

-- the `Refusal` of an error
abbrev pub refusal_of : Error → Refusal
refusal_of errors.UnexpectedEof = unexpected_eof
refusal_of (errors.Io fault) = io
refusal_of errors.Memory = memory
refusal_of errors.TapeStuck = tape_stuck
refusal_of errors.MalformedOffset = malformed_offset
refusal_of errors.MalformedIndex = malformed_index
refusal_of errors.MalformedNumber = malformed_number
refusal_of errors.OutOfRangeNumber = out_of_range_number
refusal_of errors.UnknownOperator = unknown_operator
refusal_of errors.MalformedCharSet = malformed_char_set
refusal_of errors.UnknownCharSetFormat = unknown_char_set_format
refusal_of errors.UnknownCharStringFormat = unknown_char_string_format
refusal_of (errors.MalformedOperation operator) = OfMalformed operator
refusal_of (errors.MissingOperation operator) = OfMissing operator
refusal_of errors.OutOfRangeOffset = out_of_range_offset
refusal_of (errors.Unsupported part) = OfPart part
refusal_of errors.ExpectedOperand = expected_operand
refusal_of errors.ExpectedInteger = expected_integer
refusal_of errors.ExpectedMoreOperands = expected_more_operands
refusal_of errors.MalformedOperands = malformed_operands
refusal_of errors.InvalidOperand = invalid_operand
refusal_of errors.MissingSubroutine = missing_subroutine
refusal_of errors.ReturnWithoutCaller = return_without_caller
refusal_of errors.TrailingData = trailing_data
refusal_of errors.TooDeep = too_deep
refusal_of errors.Overflow = overflow
refusal_of errors.ZeroDivisor = zero_divisor
refusal_of errors.NegativeRoot = negative_root
refusal_of errors.TooManyStems = too_many_stems
refusal_of errors.AlreadyFailed = already_failed

-- the number of an error in contracts
abbrev pub number_of : Refusal → ℕ
number_of (Numbered number) = number
number_of (OfMalformed operator) = 13
number_of (OfMissing operator) = 14
number_of (OfPart part) = 16

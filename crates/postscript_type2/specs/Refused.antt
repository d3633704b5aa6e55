-- The errors of a program, and the errors that its caller gets.
use Rattle.std.specs.Prelude.{ℕ, List, Result, Ok, Err, MatchResult}
use Rattle.postscript_base.specs.declared.error.Error.{Error}
use Rattle.postscript_base.specs.declared.error.Error.TheVariants as errors
use Rattle.postscript_base.specs.Error.{IsOneOf}
use Rattle.postscript_base.specs.Refusal.{Refusal}
use Rattle.postscript_base.specs.RefusalOf.{refusal_of, number_of}
use Rattle.postscript_type2.specs.declared.refused.Refused.{Refused}
use Rattle.postscript_type2.specs.declared.refused.Refused.TheVariants as cases

-- the error of the same name
abbrev pub error_of : Refused → Error
error_of cases.Memory = errors.Memory
error_of cases.UnexpectedEof = errors.UnexpectedEof
error_of cases.MalformedNumber = errors.MalformedNumber
error_of cases.UnknownOperator = errors.UnknownOperator
error_of (cases.Unsupported part) = errors.Unsupported part
error_of cases.ExpectedOperand = errors.ExpectedOperand
error_of cases.ExpectedInteger = errors.ExpectedInteger
error_of cases.ExpectedMoreOperands = errors.ExpectedMoreOperands
error_of cases.MalformedOperands = errors.MalformedOperands
error_of cases.InvalidOperand = errors.InvalidOperand
error_of cases.MissingSubroutine = errors.MissingSubroutine
error_of cases.ReturnWithoutCaller = errors.ReturnWithoutCaller
error_of cases.TrailingData = errors.TrailingData
error_of cases.TooDeep = errors.TooDeep
error_of cases.Overflow = errors.Overflow
error_of cases.ZeroDivisor = errors.ZeroDivisor
error_of cases.NegativeRoot = errors.NegativeRoot
error_of cases.TooManyStems = errors.TooManyStems
error_of cases.AlreadyFailed = errors.AlreadyFailed

-- the same result, with its error converted
abbrev pub with_error : {A : Type 0} → Result A Refused → Result A Error
with_error (Ok answer) = Ok answer
with_error (Err refused) = Err (error_of refused)

-- the `Refusal` of an error
abbrev pub reason : Refused → Refusal
reason refused = refusal_of (error_of refused)

-- an error of the result has one of these numbers
abbrev pub IsListedAs : {A : Type 0} → List ℕ → Result A Refused → Type 0
IsListedAs numbers result = MatchResult result (λ _. Unit {0}) (λ refused. IsOneOf numbers (number_of (reason refused)))

-- Operations of DICTs as they are written: integers in five bytes, and an operator of one or two bytes (Technical Note 5176, "DICT Data").
use Rattle.std.specs.Prelude.{◌≡◌, ◌≢◌, ◌⊎◌, ℕ, pos, ◌+◌, ◌^◌, ◌<◌, List, [], ◌∷◌, ◌++◌, length, map, Option, Some, None}
use Rattle.std.specs.Option.{option_or}
use Rattle.postscript_base.specs.Compact1.Decimal.{Decimal}
use Rattle.postscript_base.specs.Compact1.Defaults.{look}
use Rattle.postscript_base.specs.Compact1.Dictionary.{Dictionary, dictionary_of}
use Rattle.postscript_base.specs.Compact1.DictionaryLaw.{IsDictionary, OperationsAt, last_of}
use Rattle.postscript_base.specs.Compact1.Number.{whole}
use Rattle.postscript_base.specs.Compact1.Operation.{Operation}
use Rattle.postscript_base.specs.Compact1.Operators.{operator_of}
use Rattle.postscript_base.specs.declared.compact1.operator.Operator.{Operator}
use Rattle.postscript_base.specs.declared.compact1.operator.Operator.TheVariants.{BaseFontName, CharSet, CharStrings, Copyright, Encoding, FDArray, FDSelect, FamilyName, FontName, FullName, Notice, PostScript, Private, Subrs, Version, Weight}
use Rattle.postscript_write.specs.Parts.{IsAmong}
use Rattle.postscript_write.specs.Texts.{number_text}
use Rattle.postscript_write.specs.declared.dictionaries.Place.{Place}

abbrev pub integer_text : ℕ → List ℕ
integer_text n = number_text 1 0x1d ++ number_text 4 n

abbrev pub integers_text : List ℕ → List ℕ
integers_text [] = []
integers_text (n ∷ ns) = integer_text n ++ integers_text ns

abbrev pub operation_text : (numbers : List ℕ) (code : ℕ) → List ℕ
operation_text numbers code = integers_text numbers ++ number_text 1 code

abbrev pub escaped_text : (numbers : List ℕ) (second : ℕ) → List ℕ
escaped_text numbers second = integers_text numbers ++ (number_text 1 0x0c ++ number_text 1 second)

-- numbers as operands
abbrev pub operands_of : List ℕ → List Decimal
operands_of numbers = map (λ n. whole (pos n)) numbers

-- numbers that fit into the five bytes
abbrev pub AreHeld : List ℕ → Type 0
AreHeld [] = Unit {0}
AreHeld (n ∷ ns) = (n < 2 ^ 31) × AreHeld ns

-- the code of a one-byte operator
pub record IsCode (code : ℕ) (operator : Operator) : Type 0 where
  pub low : code < 256
  pub one : code ≢ 0x0c
  pub names : operator_of code ≡ Some operator

-- the code of a two-byte operator, whose first byte is 12
pub record IsEscaped (second : ℕ) (operator : Operator) : Type 0 where
  pub low : second < 256
  pub names : operator_of (0x0c00 + second) ≡ Some operator

-- the operators that are written: the ones of one byte that have an offset or a SID, and the ones of two bytes
abbrev pub short : List Operator
short = Version ∷ Notice ∷ FullName ∷ FamilyName ∷ Weight ∷ CharSet ∷ Encoding ∷ CharStrings ∷ Private ∷ Subrs ∷ []

abbrev pub escaped : List Operator
escaped = Copyright ∷ PostScript ∷ BaseFontName ∷ FDArray ∷ FDSelect ∷ FontName ∷ []

abbrev pub IsWritable : Operator → Type 0
IsWritable operator = IsAmong operator short ⊎ IsAmong operator escaped

-- the numbers of an operation: an offset, and before it a size, if there is one
abbrev pub numbers_of : Option ℕ → (offset : ℕ) → List ℕ
numbers_of None offset = offset ∷ []
numbers_of (Some size) offset = size ∷ offset ∷ []

abbrev pub operation_of : Place → Operation
operation_of place = (place.operator, operands_of (numbers_of place.size place.offset))

-- it can be written
abbrev pub IsHeld : Place → Type 0
IsHeld place = IsWritable place.operator × AreHeld (numbers_of place.size place.offset)

-- A DICT has new operands for the operators of these places, and the old ones for all others.
abbrev pub IsPlaced : Dictionary → List Place → Dictionary → Type 0
IsPlaced old places new =
    (operator : Operator) → look new operator ≡ option_or (last_of (map operation_of places) operator) (look old operator)

-- if a text is a DICT, the bytes are that DICT with these places
abbrev pub IsWithPlaces : (text : List ℕ) → List Place → (out : List ℕ) → Type 0
IsWithPlaces text places out = (old : Dictionary) → IsDictionary text 0 old →
    (new : Dictionary) × IsDictionary out 0 new × IsPlaced old places new

-- Laws: an operation that is written after operations is one more of them. Whole operations are a DICT, in which the last operation of each
-- operator counts.
pub record WritesOperations : Type 0 where
  pub append : (kept : List ℕ) (operations : List Operation) (numbers : List ℕ) (code : ℕ) (operator : Operator) →
      OperationsAt kept 0 operations (length kept) → AreHeld numbers → IsCode code operator →
      OperationsAt (kept ++ operation_text numbers code) 0 (operations ++ (operator, operands_of numbers) ∷ [])
      (length (kept ++ operation_text numbers code))
  pub escaped : (kept : List ℕ) (operations : List Operation) (numbers : List ℕ) (second : ℕ) (operator : Operator) →
      OperationsAt kept 0 operations (length kept) → AreHeld numbers → IsEscaped second operator →
      OperationsAt (kept ++ escaped_text numbers second) 0 (operations ++ (operator, operands_of numbers) ∷ [])
      (length (kept ++ escaped_text numbers second))
  pub all : (bytes : List ℕ) (operations : List Operation) → OperationsAt bytes 0 operations (length bytes) →
      IsDictionary bytes 0 (dictionary_of operations)

-- A Type 2 charstring that does the same as a CFF2 charstring (Technical Note 5177, "Type 2 Charstring Organization", Appendix B; OpenType
-- 1.9, "CFF2 CharString Format").
use Rattle.std.specs.Prelude.{◌≡◌, ℕ, ◌≤◌, ℤ, Bool, true, false, List, [], ◌∷◌, ◌++◌, length, map, Option, Some, None}
use Rattle.postscript_type2.specs.declared.operation.Operator.{Operator}
use Rattle.postscript_type2.specs.declared.operation.Operator.TheVariants.{EndChar, HStem, VStem, VMoveTo, HStemHM, HintMask, CntrMask, RMoveTo, HMoveTo, VStemHM}
use Rattle.postscript_type2.specs.Program.Meaning.{IsRunOf, answer, hinting}
use Rattle.postscript_type2.specs.Program.Phrases.{IsPhrase}
use Rattle.postscript_type2.specs.Program.Routines.{Lists}
use Rattle.postscript_type2.specs.Program.Runs as runs
use Rattle.postscript_type2.specs.Program.Runs.{Answer, Finished, by}
use Rattle.postscript_variable.specs.declared.charstring.Charstring.{Charstring}
use Rattle.postscript_variable.specs.Sayings.{Phrase}
use Rattle.postscript_variable.specs.Told.{Says}
use Rattle.postscript_instance.specs.Pieces.{stack_limit, AreInPieces}
use Rattle.postscript_instance.specs.Texts.{width_numbers, numbers_of}

-- The phrases of a run. Each one has the numbers and the operator of an operation, and then the bytes of its mask. The width is before the
-- first one, and endchar is the last.
pub data AreSpelled : (width : Option ℤ) → List Phrase → List runs.Phrase → Type 0 where
  finish : (width : Option ℤ) (phrase : List ℕ) → IsPhrase phrase (width_numbers width) EndChar →
      AreSpelled width [] (by EndChar phrase ∷ [])
  one_more : (width : Option ℤ) (x : Phrase) (xs : List Phrase) (phrase : List ℕ) (trace : List runs.Phrase) →
      IsPhrase phrase (numbers_of width x) x.operator → AreSpelled None xs trace →
      AreSpelled width (x ∷ xs) (by x.operator (phrase ++ x.mask) ∷ trace)

-- an operation with its hints and this width
abbrev pub answer_with : Option ℤ → Phrase → Answer
answer_with width x = answer x.operator x.operands (hinting x.stems x.mask) width

-- With these subroutines, the run of a code returns all operations with their operands and hints, and with this width. Its phrases spell
-- these operations. It ends with endchar, which takes nothing from the stack.
pub record SaysSo (lists : Lists) (code : List ℕ) (width : Option ℤ) (says : List Phrase) : Type 0 where
  pub run : runs.Run
  pub is : IsRunOf lists code run
  pub answers : run.answers ≡ map (answer_with width) says
  pub phrases : AreSpelled width says run.trace
  pub end : run.end ≡ Finished [] width

-- the numbers before each operator, including the width, fit on a stack
abbrev pub Fits : Option ℤ → List Phrase → Type 0
Fits width [] = Unit {0}
Fits width (x ∷ xs) = (length (numbers_of width x) ≤ stack_limit) × Fits None xs

-- the operators that may have the width before their operands, apart from endchar ("Type 2 Charstring Organization")
abbrev pub bears_width : Operator → Bool
bears_width HStem = true
bears_width HStemHM = true
bears_width VStem = true
bears_width VStemHM = true
bears_width HintMask = true
bears_width CntrMask = true
bears_width HMoveTo = true
bears_width VMoveTo = true
bears_width RMoveTo = true
bears_width op = false

-- if there is a width, the first operator may have it before its operands
abbrev pub BearsWidth : Option ℤ → List Phrase → Type 0
BearsWidth (Some width) (x ∷ xs) = bears_width x.operator ≡ true
BearsWidth width xs = Unit {0}

-- A CFF2 charstring, a width, and a Type 2 code that does the same with this width. It calls no subroutines, so it does so with any. Path
-- operators that do not fit on a stack are in pieces.
pub record IsStaticOf (charstring : Charstring) (width : Option ℤ) (code : List ℕ) : Type 0 where
  pub says : List Phrase
  pub said : Says charstring says
  pub written : List Phrase
  pub in_pieces : AreInPieces says written
  pub does : (lists : Lists) → SaysSo lists code width written
  pub fits : Fits width written
  pub bears : BearsWidth width written

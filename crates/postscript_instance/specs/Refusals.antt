-- Why no static charstring is written.
use Rattle.std.specs.Prelude.{◌≡◌, ◌<◌, ℤ, false, List, ◌∷◌, length, Option, Some, None}
use Rattle.postscript_base.specs.declared.error.Error.TheVariants as causes
use Rattle.postscript_base.specs.RefusalOf.{refusal_of}
use Rattle.postscript_type2.specs.Operation.Kinds.{Kind, DeclaresStems, Masks, kind}
use Rattle.postscript_variable.specs.declared.charstring.Charstring.{Charstring}
use Rattle.postscript_variable.specs.Sayings.{Phrase}
use Rattle.postscript_variable.specs.Told.{Says, StopsWith}
use Rattle.postscript_instance.specs.declared.error.Error.{Error}
use Rattle.postscript_instance.specs.declared.error.Error.TheVariants as errors
use Rattle.postscript_instance.specs.Pieces.{stack_limit}
use Rattle.postscript_instance.specs.Statics.{bears_width}
use Rattle.postscript_instance.specs.Texts.{numbers_of}

-- the hint operators: declarations of stems, and masks
abbrev pub IsHint : Kind → Type 0
IsHint (DeclaresStems takes) = Unit {0}
IsHint (Masks takes) = Unit {0}
IsHint kind = ⊥

-- a hint operator has more numbers before it than fit on a stack
pub data HasMore : Option ℤ → List Phrase → Type 0 where
  here : (width : Option ℤ) (x : Phrase) (xs : List Phrase) → IsHint (kind x.operator) → stack_limit < length (numbers_of width x) →
      HasMore width (x ∷ xs)
  later : (width : Option ℤ) (x : Phrase) (xs : List Phrase) → HasMore None xs → HasMore width (x ∷ xs)

-- a width is given, but the first operator cannot have it before its operands
abbrev pub LacksMove : Option ℤ → List Phrase → Type 0
LacksMove (Some width) (x ∷ xs) = bears_width x.operator ≡ false
LacksMove width xs = ⊥

-- The run fails, a hint operator has too many numbers before it, or the first operator cannot have a width before its operands. Any call
-- may also fail with `Memory`.
abbrev pub NotWritten : Charstring → (width : Option ℤ) → Error → Type 0
NotWritten charstring width (errors.Font causes.Memory) = Unit {0}
NotWritten charstring width (errors.Font e) = StopsWith charstring (refusal_of e)
NotWritten charstring width errors.TooManyOperands = (says : List Phrase) × Says charstring says × HasMore width says
NotWritten charstring width errors.NoMove = (says : List Phrase) × Says charstring says × LacksMove width says
NotWritten charstring width e = ⊥

-- out of memory
abbrev pub IsMemory : Error → Type 0
IsMemory (errors.Font e) = e ≡ causes.Memory
IsMemory e = ⊥

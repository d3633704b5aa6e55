-- Only private contracts and proofs use these names.
use Rattle.std.specs.Prelude.{◌≡◌, ◌⊎◌, ℕ, ◌<◌, ◌≤◌, ℤ, ◌+ℤ◌, true, false, List, [], ◌∷◌, ◌++◌, length, Option, None, pos, if◌then◌else◌}
use Rattle.postscript_base.specs.declared.error.Error.TheVariants as causes
use Rattle.postscript_outline.specs.declared.point.Point.{Point}
use Rattle.postscript_variable.specs.Defaults.{AreHeld}
use Rattle.postscript_variable.specs.Sayings.{Phrase}
use Rattle.postscript_instance.specs.declared.error.Error.{Error}
use Rattle.postscript_instance.specs.declared.error.Error.TheVariants as errors
use Rattle.postscript_instance.specs.Axes.{steps_of, rounded_steps, behind_steps, is_hint, IsNear}
use Rattle.postscript_instance.specs.Pieces.{stack_limit}
use Rattle.postscript_instance.specs.Refusals.{LacksMove}
use Rattle.postscript_instance.specs.Rounded.{depth_of, rounded_operator}
use Rattle.postscript_instance.specs.Nearest.{rounded}
use Rattle.postscript_instance.specs.Texts.{width_numbers, numbers_of, code_text}
use Rattle.postscript_instance.specs.Cuts.{is_cut, AreCut}

-- each number that is written fits into 32 bits
abbrev pub AreHeldIn : Option ℤ → List Phrase → Type 0
AreHeldIn width [] = AreHeld (width_numbers width)
AreHeldIn width (x ∷ xs) = AreHeld (numbers_of width x) × AreHeldIn None xs

-- the operations are appended to the old bytes
pub record IsWritten (width : Option ℤ) (says : List Phrase) (old new : List ℕ) : Type 0 where
  pub written : List Phrase
  pub cut : AreCut says written
  pub text : new ≡ old ++ code_text width written
  pub held : AreHeldIn width written

-- an operator can be split, or the numbers before it fit on a stack
abbrev pub IsHeldOrCut : Option ℤ → Phrase → Type 0
IsHeldOrCut width x = (is_cut x.operator ≡ true) ⊎ (length (numbers_of width x) ≤ stack_limit)

abbrev pub AreHeldOrCut : Option ℤ → List Phrase → Type 0
AreHeldOrCut width [] = Unit {0}
AreHeldOrCut width (x ∷ xs) = IsHeldOrCut width x × AreHeldOrCut None xs

-- some operator that cannot be split has more numbers before it than fit on a stack
pub data HasMoreUncut : Option ℤ → List Phrase → Type 0 where
  here : (width : Option ℤ) (x : Phrase) (xs : List Phrase) → is_cut x.operator ≡ false → stack_limit < length (numbers_of width x) →
      HasMoreUncut width (x ∷ xs)
  later : (width : Option ℤ) (x : Phrase) (xs : List Phrase) → HasMoreUncut None xs → HasMoreUncut width (x ∷ xs)

-- why operations are not written
abbrev pub IsUnwritten : (width : Option ℤ) → List Phrase → Error → Type 0
IsUnwritten width says (errors.Font e) = e ≡ causes.Memory
IsUnwritten width says errors.TooManyOperands = HasMoreUncut width says
IsUnwritten width says errors.NoMove = LacksMove width says
IsUnwritten width says e = ⊥

-- the operands of stems between edges that are rounded to whole units
abbrev pub rounded_edges : (from : ℤ) → List ℤ → List ℤ
rounded_edges from [] = []
rounded_edges from (d ∷ ds) = rounded from d ∷ rounded_edges (from +ℤ d) ds

-- an operation in whole units
abbrev pub operands_in_units : Point → Phrase → List ℤ
operands_in_units p x =
    if is_hint x.operator then rounded_edges (pos 0) x.operands
    else rounded_steps p (steps_of x.operator x.operands) ++ depth_of x.operator x.operands

abbrev pub in_units : Point → Phrase → Phrase
in_units p x = record {
  operator = rounded_operator x.operator;
  stems = rounded_edges (pos 0) x.stems;
  operands = operands_in_units p x;
  mask = x.mask;
}

abbrev pub all_in_units : Point → List Phrase → List Phrase
all_in_units p [] = []
all_in_units p (x ∷ xs) = in_units p x ∷ all_in_units (behind_steps p (steps_of x.operator x.operands)) xs

abbrev pub AreNear : Point → List Phrase → Type 0
AreNear p [] = Unit {0}
AreNear p (x ∷ xs) = IsNear p x × AreNear (behind_steps p (steps_of x.operator x.operands)) xs

-- the cause of `TooFar`, or out of memory
abbrev pub IsFar : (why : Type 0) → Error → Type 0
IsFar why (errors.Font e) = e ≡ causes.Memory
IsFar why errors.TooFar = why
IsFar why e = ⊥

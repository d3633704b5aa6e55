-- The operands that strokes use.
use Rattle.std.specs.Prelude.{◌≡◌, ℤ, List, length, take}
use Rattle.postscript_drawing.specs.Fitting.{Fits}
use Rattle.postscript_drawing.specs.Operators.{strokes}
use Rattle.postscript_type2.specs.declared.operation.Operator.{Operator}
use Rattle.postscript_type2.specs.declared.operation.Operator.TheVariants.{Flex}
use Rattle.postscript_type2.specs.Operation.Kinds.{Kind, Draws, kind}

abbrev pub IsDrawn : Kind → Type 0
IsDrawn (Draws takes) = Unit {0}
IsDrawn kind = ⊥

-- the operands that strokes use: all except the depth of a flex, which is the thirteenth
abbrev pub used : Operator → List ℤ → List ℤ
used Flex xs = take 12 xs
used op xs = xs

-- A law: strokes use all operands that fit. If two operations with one path operator and the same number of operands draw the same strokes,
-- they have the same operands.
abbrev pub StrokesUseOperands : Type 0
StrokesUseOperands = (op : Operator) (xs ys : List ℤ) → IsDrawn (kind op) → Fits op xs → length xs ≡ length ys →
    strokes op xs ≡ strokes op ys → used op xs ≡ used op ys

-- The strokes of each operator with its operands (Technical Note 5177, "Path Construction Operators").
use Rattle.std.specs.Prelude.{◌≡◌, ℤ, Bool, true, false, List, [], ◌∷◌, Option, Some, None}
use Rattle.postscript_drawing.specs.declared.stroke.Axis.TheVariants.{Horizontal, Vertical}
use Rattle.postscript_drawing.specs.declared.stroke.Stroke.{Stroke}
use Rattle.postscript_drawing.specs.Strokes.{move, move_along, lines, lines_in_turn, curves, curves_level, curves_in_turn, curves_then_line, lines_then_curve, flex, hflex, hflex1, flex1}
use Rattle.postscript_type2.specs.declared.operation.Operator.{Operator}
use Rattle.postscript_type2.specs.declared.operation.Operator.TheVariants.{RMoveTo, HMoveTo, VMoveTo, RLineTo, HLineTo, VLineTo, RRCurveTo, HHCurveTo, VVCurveTo, HVCurveTo, VHCurveTo, RCurveLine, RLineCurve, Flex, HFlex, HFlex1, Flex1}

abbrev pub strokes : Operator → List ℤ → List Stroke
strokes RMoveTo xs = move xs
strokes HMoveTo xs = move_along Horizontal xs
strokes VMoveTo xs = move_along Vertical xs
strokes RLineTo xs = lines xs
strokes HLineTo xs = lines_in_turn Horizontal xs
strokes VLineTo xs = lines_in_turn Vertical xs
strokes RRCurveTo xs = curves xs
strokes HHCurveTo xs = curves_level Horizontal xs
strokes VVCurveTo xs = curves_level Vertical xs
strokes HVCurveTo xs = curves_in_turn Horizontal xs
strokes VHCurveTo xs = curves_in_turn Vertical xs
strokes RCurveLine xs = curves_then_line xs
strokes RLineCurve xs = lines_then_curve xs
strokes Flex xs = flex xs
strokes HFlex xs = hflex xs
strokes HFlex1 xs = hflex1 xs
strokes Flex1 xs = flex1 xs
-- stems and masks draw nothing, nor do operators that are not operations of a run
strokes op xs = []

-- the operators with two curves
abbrev pub is_flex : Operator → Bool
is_flex Flex = true
is_flex HFlex = true
is_flex HFlex1 = true
is_flex Flex1 = true
is_flex op = false

-- these are all strokes, or there are none
abbrev pub AreTwo : List Stroke → Option (Stroke × Stroke) → Type 0
AreTwo all (Some (first, second)) = all ≡ first ∷ second ∷ []
AreTwo all None = all ≡ []

-- The axes of the operands of path operators (Technical Note 5177, "Path Construction Operators"). Only private contracts and proofs use
-- these names.
use Rattle.std.specs.Prelude.{◌≡◌, ◌%◌, ◌==◌, ℤ, pos, ◌+ℤ◌, Bool, true, false, List, [], ◌∷◌, ◌++◌, length, if◌then◌else◌}
use Rattle.postscript_drawing.specs.Operators.{strokes}
use Rattle.postscript_drawing.specs.Strokes.{other}
use Rattle.postscript_drawing.specs.declared.stroke.Axis.{Axis}
use Rattle.postscript_drawing.specs.declared.stroke.Axis.TheVariants.{Horizontal, Vertical}
use Rattle.postscript_drawing.specs.declared.stroke.Stroke.{Stroke}
use Rattle.postscript_drawing.specs.declared.stroke.Stroke.TheVariants.{Move, Line, Curve}
use Rattle.postscript_drawing.specs.declared.stroke.Vector.{Vector}
use Rattle.postscript_outline.specs.Points.{point}
use Rattle.postscript_outline.specs.declared.point.Point.{Point}
use Rattle.postscript_type2.specs.declared.operation.Operator.{Operator}
use Rattle.postscript_type2.specs.declared.operation.Operator.TheVariants.{HStem, VStem, HStemHM, VStemHM, HintMask, CntrMask, VMoveTo, VLineTo, HHCurveTo, VVCurveTo, HVCurveTo, VHCurveTo, HFlex, Flex, HFlex1, Flex1}
use Rattle.postscript_variable.specs.Sayings.{Phrase}
use Rattle.postscript_instance.specs.declared.axes.Step.{Step}
use Rattle.postscript_instance.specs.Far.{IsStep, AreEdges}
use Rattle.postscript_instance.specs.Nearest.{rounded}

-- a distance along an axis
abbrev pub so_far : Axis → ℤ → Step
so_far axis distance = record { axis = axis; distance = distance }

-- distances along one axis and the other in turn
abbrev pub in_turn : Axis → List ℤ → List Step
in_turn axis [] = []
in_turn axis (d ∷ rest) = so_far axis d ∷ in_turn (other axis) rest

-- {da dxb dyb dc}+ de?: each curve begins and ends along these axes, and the next one has them swapped. A single last operand is along the
-- axis where the next curve would end.
abbrev pub bows : (begin end : Axis) → List ℤ → List Step
bows begin end (da ∷ dxb ∷ dyb ∷ dc ∷ rest) = so_far begin da ∷ so_far Horizontal dxb ∷ so_far Vertical dyb ∷ so_far end dc
    ∷ bows end begin rest
bows begin end (de ∷ []) = so_far end de ∷ []
bows begin end _ = []

-- d1? {da dxb dyb dc}+: if the number of operands is odd, the first one is along the other axis
abbrev pub level : Axis → List ℤ → List Step
level axis [] = []
level axis (d ∷ rest) = if length rest % 2 == 0 then so_far (other axis) d ∷ bows axis axis rest else bows axis axis (d ∷ rest)

-- all coordinates of vectors and of strokes
abbrev pub vector_steps : Vector → List Step
vector_steps v = so_far Horizontal v.dx ∷ so_far Vertical v.dy ∷ []

abbrev pub stroke_steps : Stroke → List Step
stroke_steps (Move v) = vector_steps v
stroke_steps (Line v) = vector_steps v
stroke_steps (Curve a b c) = vector_steps a ++ (vector_steps b ++ vector_steps c)

abbrev pub coordinates : List Stroke → List Step
coordinates [] = []
coordinates (s ∷ strokes) = stroke_steps s ++ coordinates strokes

-- The operands of an operator, each along its axis. A flex has all of its coordinates, and hints have no steps.
abbrev pub steps_of : Operator → List ℤ → List Step
steps_of HStem xs = []
steps_of VStem xs = []
steps_of HStemHM xs = []
steps_of VStemHM xs = []
steps_of HintMask xs = []
steps_of CntrMask xs = []
steps_of VMoveTo xs = in_turn Vertical xs
steps_of VLineTo xs = in_turn Vertical xs
steps_of HHCurveTo xs = level Horizontal xs
steps_of VVCurveTo xs = level Vertical xs
steps_of HVCurveTo xs = bows Horizontal Vertical xs
steps_of VHCurveTo xs = bows Vertical Horizontal xs
steps_of HFlex xs = coordinates (strokes HFlex xs)
steps_of Flex xs = coordinates (strokes Flex xs)
steps_of HFlex1 xs = coordinates (strokes HFlex1 xs)
steps_of Flex1 xs = coordinates (strokes Flex1 xs)
steps_of op xs = in_turn Horizontal xs

-- the coordinate of a point along an axis, and the point moved along an axis
abbrev pub at : Axis → Point → ℤ
at Horizontal p = p.x
at Vertical p = p.y

abbrev pub moved : Axis → Point → ℤ → Point
moved Horizontal p d = point (p.x +ℤ d) p.y
moved Vertical p d = point p.x (p.y +ℤ d)

-- steps from a point on, each between the nearest whole units of its start and its end, and the point after them
abbrev pub rounded_steps : Point → List Step → List ℤ
rounded_steps p [] = []
rounded_steps p (s ∷ steps) = rounded (at s.axis p) s.distance ∷ rounded_steps (moved s.axis p s.distance) steps

abbrev pub behind_steps : Point → List Step → Point
behind_steps p [] = p
behind_steps p (s ∷ steps) = behind_steps (moved s.axis p s.distance) steps

-- each of them fits into 16.16 bits
abbrev pub AreSteps : Point → List Step → Type 0
AreSteps p [] = Unit {0}
AreSteps p (s ∷ steps) = IsStep (at s.axis p) s.distance × AreSteps (moved s.axis p s.distance) steps

-- the operators whose operands are edges of stems, and masks
abbrev pub is_hint : Operator → Bool
is_hint HStem = true
is_hint VStem = true
is_hint HStemHM = true
is_hint VStemHM = true
is_hint HintMask = true
is_hint CntrMask = true
is_hint op = false

-- in whole units, all numbers of the operation fit into 16.16 bits
pub record IsNear (p : Point) (x : Phrase) : Type 0 where
  pub steps : AreSteps p (steps_of x.operator x.operands)
  pub edges : is_hint x.operator ≡ true → AreEdges (pos 0) x.operands
  pub stems : AreEdges (pos 0) x.stems

-- some operation does not fit
pub data LeadsTooFar : Point → List Phrase → Type 0 where
  here : (p : Point) (x : Phrase) (xs : List Phrase) → ¬ IsNear p x → LeadsTooFar p (x ∷ xs)
  later : (p : Point) (x : Phrase) (xs : List Phrase) → LeadsTooFar (behind_steps p (steps_of x.operator x.operands)) xs →
      LeadsTooFar p (x ∷ xs)

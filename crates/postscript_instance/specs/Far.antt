-- Coordinates that are out of range in whole units, so that no charstring is written.
use Rattle.std.specs.Prelude.{ℤ, pos, ◌+ℤ◌, List, [], ◌∷◌, Option}
use Rattle.postscript_drawing.specs.Operators.{strokes}
use Rattle.postscript_drawing.specs.declared.stroke.Stroke.{Stroke}
use Rattle.postscript_drawing.specs.declared.stroke.Stroke.TheVariants.{Move, Line, Curve}
use Rattle.postscript_drawing.specs.declared.stroke.Vector.{Vector}
use Rattle.postscript_outline.specs.declared.point.Point.{Point}
use Rattle.postscript_type2.specs.Operation.Kinds.{kind}
use Rattle.postscript_type2.specs.Program.StackRules.{IsHeld}
use Rattle.postscript_variable.specs.declared.charstring.Charstring.{Charstring}
use Rattle.postscript_variable.specs.Sayings.{Phrase}
use Rattle.postscript_variable.specs.Told.{Says}
use Rattle.postscript_instance.specs.declared.error.Error.{Error}
use Rattle.postscript_instance.specs.declared.error.Error.TheVariants as errors
use Rattle.postscript_instance.specs.Refusals.{IsHint, NotWritten}
use Rattle.postscript_instance.specs.Rounded.{origin}
use Rattle.postscript_instance.specs.Nearest.{nearest, rounded, led, behind}

-- The end of a step fits into 16.16 bits. So do its start and its end, rounded to whole units, and the distance between these two.
pub record IsStep (from distance : ℤ) : Type 0 where
  pub start : IsHeld (nearest from)
  pub place : IsHeld (from +ℤ distance)
  pub end : IsHeld (nearest (from +ℤ distance))
  pub way : IsHeld (rounded from distance)

-- the same for a vector, along both axes, and for all vectors of strokes
abbrev pub IsWay : Point → Vector → Type 0
IsWay p v = IsStep p.x v.dx × IsStep p.y v.dy

abbrev pub AreWays : Point → List Stroke → Type 0
AreWays p [] = Unit {0}
AreWays p (Move v ∷ strokes) = IsWay p v × AreWays (led p v) strokes
AreWays p (Line v ∷ strokes) = IsWay p v × AreWays (led p v) strokes
AreWays p (Curve a b c ∷ strokes) =
    let q = led p a in
    let r = led q b in
    IsWay p a × IsWay q b × IsWay r c × AreWays (led r c) strokes

-- the same for the edges of stems
abbrev pub AreEdges : (from : ℤ) → List ℤ → Type 0
AreEdges from [] = Unit {0}
AreEdges from (d ∷ ds) = IsStep from d × AreEdges (from +ℤ d) ds

-- all coordinates of the operation are in range, if it starts at this point
pub record IsWithin (p : Point) (x : Phrase) : Type 0 where
  pub ways : AreWays p (strokes x.operator x.operands)
  pub edges : IsHint (kind x.operator) → AreEdges (pos 0) x.operands
  pub stems : AreEdges (pos 0) x.stems

-- some operation is out of range
pub data LeadsOut : Point → List Phrase → Type 0 where
  here : (p : Point) (x : Phrase) (xs : List Phrase) → ¬ IsWithin p x → LeadsOut p (x ∷ xs)
  later : (p : Point) (x : Phrase) (xs : List Phrase) → LeadsOut (behind p (strokes x.operator x.operands)) xs → LeadsOut p (x ∷ xs)

-- The run fails, a hint operator has too many numbers before it, or the first operator cannot have a width before its operands. Other
-- causes are a coordinate out of range and `Memory`.
abbrev pub NotRounded : Charstring → (width : Option ℤ) → Error → Type 0
NotRounded charstring width errors.TooFar = (says : List Phrase) × Says charstring says × LeadsOut origin says
NotRounded charstring width e = NotWritten charstring width e

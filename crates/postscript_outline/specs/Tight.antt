-- The bounds of lines and curves.
use Rattle.std.specs.Prelude.{◌≡◌, ℕ, ◌+◌, ◌<◌, ℤ, pos, ◌+ℤ◌, ◌*ℤ◌, ◌<ℤ◌, ◌≤ℤ◌, List, [], ◌∷◌, ◌++◌, All, Any, Option, Some, None}
use Rattle.postscript_outline.specs.Arcs.{Reaches, bezier, cube, greatest, least}
use Rattle.postscript_outline.specs.Bounds.{lower, upper}
use Rattle.postscript_outline.specs.declared.bounds.Bounds.{Bounds}
use Rattle.postscript_outline.specs.declared.segment.Segment.{Segment}
use Rattle.postscript_outline.specs.declared.segment.Segment.TheVariants.{MoveTo, LineTo, CurveTo, Close}
use Rattle.postscript_outline.specs.declared.point.Point.{Point}
use Rattle.postscript_outline.specs.declared.tight.TightBounds.{TightBounds}
use Rattle.postscript_outline.specs.Points.{point}
use Rattle.postscript_outline.specs.Sinks.{Receives}

-- a curve: its first end, its control points, and its last end
pub record Arc : Type 0 where
  pub from : Point
  pub first : Point
  pub second : Point
  pub to : Point

abbrev pub arc : (from first second to : Point) → Arc
arc from first second to = record { from = from; first = first; second = second; to = to }

-- The curves that a segment draws from a point: a point that stays, a line, whose control points are its ends, or a curve. A Close gives
-- none, since it goes back to a point that was drawn before.
abbrev pub arcs_of : Point → Segment → List Arc
arcs_of from (MoveTo p) = arc p p p p ∷ []
arcs_of from (LineTo p) = arc from from p p ∷ []
arcs_of from (CurveTo a b p) = arc from a b p ∷ []
arcs_of from Close = []

-- the point of the pen after a segment
abbrev pub after : Point → Segment → Point
after from (MoveTo p) = p
after from (LineTo p) = p
after from (CurveTo a b p) = p
after from Close = from

-- the curves that segments draw from a point
abbrev pub arcs : Point → List Segment → List Arc
arcs from [] = []
arcs from (segment ∷ segments) = arcs_of from segment ++ arcs (after from segment) segments

-- The coordinate of a curve on an axis, after n of m + n parts, times the cube of m + n.
abbrev pub place : (axis : Point → ℤ) → Arc → (m n : ℕ) → ℤ
place axis a m n = bezier (axis a.from) (axis a.first) (axis a.second) (axis a.to) m n

-- each point of the curve is at or above this coordinate on the axis, or at or below it
abbrev pub IsAbove : (axis : Point → ℤ) → ℤ → Arc → Type 0
IsAbove axis low a = (m n : ℕ) → (low *ℤ cube (m + n)) ≤ℤ place axis a m n

abbrev pub IsBelow : (axis : Point → ℤ) → ℤ → Arc → Type 0
IsBelow axis high a = (m n : ℕ) → place axis a m n ≤ℤ (high *ℤ cube (m + n))

-- Some point of the curve is less than two units inside this coordinate, or outside it. An end or a control point is at it or outside it.
pub record DipsTo (axis : Point → ℤ) (low : ℤ) (a : Arc) : Type 0 where
  pub near : (m : ℕ) × (n : ℕ) × (0 < m + n) × (place axis a m n <ℤ ((low +ℤ pos 2) *ℤ cube (m + n)))
  pub within : least (axis a.from) (axis a.first) (axis a.second) (axis a.to) ≤ℤ low

pub record RisesTo (axis : Point → ℤ) (high : ℤ) (a : Arc) : Type 0 where
  pub near : (m : ℕ) × (n : ℕ) × (0 < m + n) × ((high *ℤ cube (m + n)) <ℤ (place axis a m n +ℤ pos 2 *ℤ cube (m + n)))
  pub within : high ≤ℤ greatest (axis a.from) (axis a.first) (axis a.second) (axis a.to)

-- each point of the curve is within the bounds
pub record Contains (b : Bounds) (a : Arc) : Type 0 where
  pub left : IsAbove (λ p. p.x) b.low.x a
  pub right : IsBelow (λ p. p.x) b.high.x a
  pub bottom : IsAbove (λ p. p.y) b.low.y a
  pub top : IsBelow (λ p. p.y) b.high.y a

-- each curve is within the bounds, and each side is nearly touched
pub record TightlyBounded (b : Bounds) (curves : List Arc) : Type 0 where
  pub within : All (Contains b) curves
  pub left : Any (DipsTo (λ p. p.x) b.low.x) curves
  pub right : Any (RisesTo (λ p. p.x) b.high.x) curves
  pub bottom : Any (DipsTo (λ p. p.y) b.low.y) curves
  pub top : Any (RisesTo (λ p. p.y) b.high.y) curves

abbrev pub IsTightBoundsOf : Option Bounds → List Arc → Type 0
IsTightBoundsOf None curves = curves ≡ []
IsTightBoundsOf (Some b) curves = TightlyBounded b curves

-- the same for one curve, along either axis
pub record Surrounds (b : Bounds) (a : Arc) : Type 0 where
  pub across : Reaches b.low.x b.high.x a.from.x a.first.x a.second.x a.to.x
  pub upwards : Reaches b.low.y b.high.y a.from.y a.first.y a.second.y a.to.y

-- the bounds of both
abbrev pub both : Option Bounds → Option Bounds → Option Bounds
both None more = more
both (Some b) None = Some b
both (Some b) (Some c) = Some (record { low = lower b.low c.low; high = upper b.high c.high })

-- no bounds, with the pen at the origin
abbrev pub no_bounds : TightBounds
no_bounds = record { bounds = None; at = point (pos 0) (pos 0) }

-- The new bounds are the old ones extended by tight bounds of the curves of one more segment, and the pen is at its end.
pub record TakesIn (old : TightBounds) (segment : Segment) (new : TightBounds) : Type 0 where
  pub more : Option Bounds
  pub tight : IsTightBoundsOf more (arcs_of old.at segment)
  pub bounds_are : new.bounds ≡ both old.bounds more
  pub stands : new.at ≡ after old.at segment

-- A law: tight bounds that have received segments in order, from the origin on, are tight bounds of all that these draw.
abbrev pub TightBoundsTakeInCurves : Type 0
TightBoundsTakeInCurves = (segments : List Segment) (new : TightBounds) → Receives TakesIn no_bounds segments new →
    IsTightBoundsOf new.bounds (arcs (point (pos 0) (pos 0)) segments)

-- A drawing while it is made: strokes extend it, and their sums are exact.
use Rattle.std.specs.Prelude.{pos, ◌+ℤ◌, Bool, true, false, List, [], ◌∷◌, ◌++◌, Result, Ok, Err, if◌then◌else◌}
use Rattle.postscript_base.specs.Refusal.{Refusal}
use Rattle.postscript_drawing.specs.declared.pen.Pen.{Pen}
use Rattle.postscript_outline.specs.declared.segment.Segment.{Segment}
use Rattle.postscript_outline.specs.declared.segment.Segment.TheVariants.{MoveTo, LineTo, CurveTo, Close}
use Rattle.postscript_outline.specs.declared.point.Point.{Point}
use Rattle.postscript_outline.specs.Points.{point}
use Rattle.postscript_drawing.specs.declared.stroke.Stroke.{Stroke}
use Rattle.postscript_drawing.specs.declared.stroke.Stroke.TheVariants.{Move, Line, Curve}
use Rattle.postscript_drawing.specs.declared.stroke.Vector.{Vector}
use Rattle.postscript_type2.specs.Program.FixedPoint.{fit}

-- the current point of the pen, whether a contour is open, and the segments so far
pub record Drawing : Type 0 where
  pub place : Point
  pub is_open : Bool
  pub segments : List Segment

-- nothing is drawn, and the pen is at this point
abbrev pub blank_at : Point → Drawing
blank_at place = record { place = place; is_open = false; segments = [] }

-- the same at the origin
abbrev pub blank : Drawing
blank = blank_at (point (pos 0) (pos 0))

-- one thing after another; the first error is the result
infixl 10 ◌>>=◌
abbrev pub ◌>>=◌ : {A B : Type 0} → Result A Refusal → (A → Result B Refusal) → Result B Refusal
Ok x >>= next = next x
Err e >>= next = Err e

-- the end point of a vector, if both its coordinates stay in the range
abbrev pub reached : Point → Vector → Result Point Refusal
reached p v = do
  x ← fit (p.x +ℤ v.dx)
  y ← fit (p.y +ℤ v.dy)
  Ok (point x y)

-- the contour is closed, if one is open
abbrev pub closed : Drawing → Drawing
closed d = if d.is_open then record { place = d.place; is_open = false; segments = d.segments ++ Close ∷ [] } else d

-- a contour begins here, if none is open
abbrev pub begun : Drawing → Drawing
begun d = if d.is_open then d else record { place = d.place; is_open = true; segments = d.segments ++ MoveTo d.place ∷ [] }

-- one more segment, which ends at a point
abbrev pub extended : Drawing → Segment → Point → Drawing
extended d segment p = record { place = p; is_open = true; segments = d.segments ++ segment ∷ [] }

-- one more stroke: a move closes the contour and begins one, and any other stroke begins one if none is open
abbrev pub drawn : Stroke → Drawing → Result Drawing Refusal
drawn (Move v) d = do
  p ← reached d.place v
  Ok (extended (closed d) (MoveTo p) p)
drawn (Line v) d = do
  p ← reached d.place v
  Ok (extended (begun d) (LineTo p) p)
drawn (Curve a b c) d = do
  p ← reached d.place a
  q ← reached p b
  r ← reached q c
  Ok (extended (begun d) (CurveTo p q r) r)

-- strokes, one after another
abbrev pub drawing : List Stroke → Drawing → Result Drawing Refusal
drawing [] d = Ok d
drawing (stroke ∷ strokes) d = drawn stroke d >>= drawing strokes

-- a pen and the segments so far
abbrev pub held : Pen → List Segment → Drawing
held pen segments = record { place = pen.at; is_open = pen.is_open; segments = segments }

-- the segments that close an open contour, and that begin one if none is open
abbrev pub closing : Pen → List Segment
closing pen = if pen.is_open then Close ∷ [] else []

abbrev pub opening : Pen → List Segment
opening pen = if pen.is_open then [] else MoveTo pen.at ∷ []

-- Points and vectors in whole units. Each point is rounded to the nearest whole units, and strokes join the rounded points.
use Rattle.std.specs.Int.{int_rem_euclid}
use Rattle.std.specs.Prelude.{ℤ, pos, ◌+ℤ◌, ◌-ℤ◌, List, [], ◌∷◌}
use Rattle.postscript_drawing.specs.Operators.{strokes}
use Rattle.postscript_drawing.specs.Strokes.{by}
use Rattle.postscript_drawing.specs.declared.stroke.Stroke.{Stroke}
use Rattle.postscript_drawing.specs.declared.stroke.Stroke.TheVariants.{Move, Line, Curve}
use Rattle.postscript_drawing.specs.declared.stroke.Vector.{Vector}
use Rattle.postscript_outline.specs.Points.{point}
use Rattle.postscript_outline.specs.declared.point.Point.{Point}
use Rattle.postscript_outline.specs.declared.segment.Segment.{Segment}
use Rattle.postscript_outline.specs.declared.segment.Segment.TheVariants.{MoveTo, LineTo, CurveTo, Close}
use Rattle.postscript_type2.specs.Program.StackRules.{IsHeld}

-- 16.16 bits rounded to the nearest whole unit, and up if they are halfway
unfoldable pub nearest : ℤ → ℤ
nearest bits = bits +ℤ pos 32768 -ℤ int_rem_euclid (bits +ℤ pos 32768) (pos 65536)

-- the distance between two rounded coordinates, given the first one and the exact distance
abbrev pub rounded : (from distance : ℤ) → ℤ
rounded from distance = nearest (from +ℤ distance) -ℤ nearest from

-- the same for vectors, and the point that a vector leads to
abbrev pub rounded_by : Point → Vector → Vector
rounded_by p v = by (rounded p.x v.dx) (rounded p.y v.dy)

abbrev pub led : Point → Vector → Point
led p v = point (p.x +ℤ v.dx) (p.y +ℤ v.dy)

-- strokes from a point on, in which each vector joins rounded points
abbrev pub rounded_strokes : Point → List Stroke → List Stroke
rounded_strokes p [] = []
rounded_strokes p (Move v ∷ strokes) = Move (rounded_by p v) ∷ rounded_strokes (led p v) strokes
rounded_strokes p (Line v ∷ strokes) = Line (rounded_by p v) ∷ rounded_strokes (led p v) strokes
rounded_strokes p (Curve a b c ∷ strokes) =
    let q = led p a in
    let r = led q b in
    Curve (rounded_by p a) (rounded_by q b) (rounded_by r c) ∷ rounded_strokes (led r c) strokes

-- the point after strokes
abbrev pub behind : Point → List Stroke → Point
behind p [] = p
behind p (Move v ∷ strokes) = behind (led p v) strokes
behind p (Line v ∷ strokes) = behind (led p v) strokes
behind p (Curve a b c ∷ strokes) = behind (led (led (led p a) b) c) strokes

-- each point, rounded to whole units, fits into 16.16 bits
abbrev pub IsInRange : Point → Type 0
IsInRange p = IsHeld (nearest p.x) × IsHeld (nearest p.y)

abbrev pub AreInRange : Point → List Stroke → Type 0
AreInRange p [] = IsInRange p
AreInRange p (Move v ∷ strokes) = IsInRange p × AreInRange (led p v) strokes
AreInRange p (Line v ∷ strokes) = IsInRange p × AreInRange (led p v) strokes
AreInRange p (Curve a b c ∷ strokes) =
    let q = led p a in
    let r = led q b in
    IsInRange p × IsInRange q × IsInRange r × AreInRange (led r c) strokes

-- segments with each point rounded to the nearest whole units
abbrev pub nearest_point : Point → Point
nearest_point p = point (nearest p.x) (nearest p.y)

abbrev pub nearest_segment : Segment → Segment
nearest_segment (MoveTo p) = MoveTo (nearest_point p)
nearest_segment (LineTo p) = LineTo (nearest_point p)
nearest_segment (CurveTo p q r) = CurveTo (nearest_point p) (nearest_point q) (nearest_point r)
nearest_segment Close = Close

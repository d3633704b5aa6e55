-- Outlines of small glyphs.
use Rattle.std.proofs.Common.{◌≡◌, true, pos, [], ◌∷◌, ◌^◌, ◌-◌, Ok, Err, None, refl}
use Rattle.postscript_base.specs.Refusal.{malformed_operands, overflow}
use Rattle.postscript_drawing.specs.Applying.{applied}
use Rattle.postscript_outline.specs.declared.segment.Segment.TheVariants.{MoveTo, LineTo, Close}
use Rattle.postscript_drawing.specs.Drawing.{blank}
use Rattle.postscript_outline.specs.Points.{point}
use Rattle.postscript_drawing.specs.Outline.{outlined}
use Rattle.postscript_type2.specs.declared.operation.Operator.{Operator}
use Rattle.postscript_type2.specs.declared.operation.Operator.TheVariants.{RLineTo, RMoveTo, HLineTo, VLineTo, HMoveTo}
use Rattle.postscript_type2.specs.Program.Runs.{Answer, UsedUp, Finished, no_hints}
use Rattle.std.proofs.Common.{ℤ, List}

abbrev says : Operator → List ℤ → Answer
says op xs = record { operator = op; operands = xs; hints = no_hints; width = None }

-- a triangle from (1, 2), and a contour of a point behind it: the moveto closes the triangle, and the end the point
triangle : outlined (says RMoveTo (pos 1 ∷ pos 2 ∷ []) ∷ says HLineTo (pos 3 ∷ pos 4 ∷ []) ∷ says HMoveTo (pos 5 ∷ []) ∷ []) UsedUp
    ≡ Ok (MoveTo (point (pos 1) (pos 2)) ∷ LineTo (point (pos 4) (pos 2)) ∷ LineTo (point (pos 4) (pos 6)) ∷ Close ∷ MoveTo
    (point (pos 9) (pos 6)) ∷ Close ∷ [])
triangle = refl

-- a line with no moveto before it begins a contour at the origin
unmoved : outlined (says VLineTo (pos 3 ∷ []) ∷ [])
    (Finished [] None) ≡ Ok (MoveTo (point (pos 0) (pos 0)) ∷ LineTo (point (pos 0) (pos 3)) ∷ Close ∷ [])
unmoved = refl

-- nothing is drawn
nothing : outlined [] UsedUp ≡ Ok []
nothing = refl

-- the greatest coordinate, and one more
last_one : outlined (says HMoveTo (pos (2 ^ 31 - 1) ∷ []) ∷ []) UsedUp ≡ Ok (MoveTo (point (pos (2 ^ 31 - 1)) (pos 0)) ∷ Close ∷ [])
last_one = refl

too_far : outlined (says HMoveTo (pos (2 ^ 31 - 1) ∷ []) ∷ says HLineTo (pos 1 ∷ []) ∷ []) UsedUp ≡ Err overflow
too_far = refl

-- operands that are no pairs
misfit : applied RLineTo (pos 1 ∷ pos 2 ∷ pos 3 ∷ []) blank ≡ Err malformed_operands
misfit = refl

-- pairs, from the origin
fit : applied RLineTo (pos 1 ∷ pos 2 ∷ []) blank
    ≡ Ok (record {
      place = point (pos 1) (pos 2);
      is_open = true;
      segments = MoveTo (point (pos 0) (pos 0)) ∷ LineTo (point (pos 1) (pos 2)) ∷ [];
    })
fit = refl

use Rattle.std.proofs.Common.{rules, ◌≤ℤ◌, List, None, Some, arith, subst}
use Rattle.std.proofs.lemmas.Int.{ints, to_z-of_z}
use Rattle.postscript_outline.specs.Bounds.{IsWithin, Bounded}
use Rattle.postscript_outline.specs.declared.bounds.Bounds.{Bounds}
use Rattle.postscript_outline.specs.declared.point.Point.{Point}
use Rattle.postscript_c.proofs.corners.Corners.bounds.Goals as goal

-- the left side is met by a point, which is not right of the right side
in_order : (b : Bounds) (points : List Point) → Bounded b points → b.low.x ≤ℤ b.high.x
in_order b points h =
    let (k, p, lt, is, left) = h.left in
    let within : IsWithin b p = subst (IsWithin b) is (h.within k p lt) in
    subst (λ x. x ≤ℤ b.high.x) left within.1

pub returns-then-left-right : goal.returns-then-left-right
returns-then-left-right c None points are of = search rules
returns-then-left-right c (Some b) points are of =
    let order = in_order b points of in
    let ((left, bottom), (right, top)) = are.1 in
    let less = rw are.0 at c.if-left-right.true in
    absurd (grind (arith, ints, to_z-of_z))

pub returns : goal.returns
returns c None points are of = let not_less = rw are.0 at c.if-left-right.false in absurd (search rules)
returns c (Some b) points are of =
    let ((left, bottom), (right, top)) = are.1 in
    rw are.0 (search rules)

use Rattle.std.proofs.Common.{◌≡◌, [], ◌∷◌, rules}
use Rattle.postscript_drawing.specs.declared.stroke.Stroke.{Stroke}
use Rattle.postscript_drawing.specs.declared.stroke.Stroke.TheVariants.{Curve}
use Rattle.postscript_drawing.specs.Strokes.{curves}
use Rattle.postscript_drawing.proofs.DrawsLaws.{passed-on, so_more, so_refused}
use Rattle.postscript_drawing.proofs.pen.Pen.curves.Goals as goal

pub returns-in_err-curve_by : goal.returns-in_err-curve_by
returns-in_err-curve_by g c =
    let stroke : Stroke = Curve c.in-Some.bend.a c.in-Some.bend.b c.in-Some.bend.c in
    let rest = curves c.in-Some.bend.rest.now in
    let all : curves c.loop-bend.ahead.now ≡ stroke ∷ rest = search rules in
    passed-on c.from_residual.result c.in_err-curve_by.field-0.0 c.from_residual.ensures.1
    (so_refused (stroke ∷ []) rest all c.loop-bend.invariant c.in_err-curve_by.ensures)

pub loop-bend-preserved : goal.loop-bend-preserved
loop-bend-preserved g c =
    let stroke : Stroke = Curve c.in-Some.bend.a c.in-Some.bend.b c.in-Some.bend.c in
    let rest = curves c.in-Some.bend.rest.now in
    let all : curves c.loop-bend.ahead.now ≡ stroke ∷ rest = search rules in
    so_more (stroke ∷ []) rest all c.loop-bend.invariant c.in_ok-curve_by.ensures

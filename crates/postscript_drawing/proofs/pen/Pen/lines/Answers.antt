use Rattle.std.proofs.Common.{◌≡◌, [], ◌∷◌, rules}
use Rattle.postscript_drawing.specs.declared.stroke.Stroke.TheVariants.{Line}
use Rattle.postscript_drawing.specs.Strokes.{lines}
use Rattle.postscript_drawing.proofs.DrawsLaws.{passed-on, so_more, so_refused}
use Rattle.postscript_drawing.proofs.pen.Pen.lines.Goals as goal

pub returns-in_err-line_by : goal.returns-in_err-line_by
returns-in_err-line_by g c =
    let rest = lines c.in-Some.rest.now in
    let all : lines c.loop-a.ahead.now ≡ Line c.in-Some.a ∷ rest = search rules in
    passed-on c.from_residual.result c.in_err-line_by.field-0.0 c.from_residual.ensures.1
    (so_refused (Line c.in-Some.a ∷ []) rest all c.loop-a.invariant c.in_err-line_by.ensures)

pub loop-a-preserved : goal.loop-a-preserved
loop-a-preserved g c =
    let rest = lines c.in-Some.rest.now in
    let all : lines c.loop-a.ahead.now ≡ Line c.in-Some.a ∷ rest = search rules in
    so_more (Line c.in-Some.a ∷ []) rest all c.loop-a.invariant c.in_ok-line_by.ensures

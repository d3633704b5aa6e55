use Rattle.std.proofs.Common.{◌≡◌, ◌++◌, rules}
use Rattle.postscript_drawing.specs.Strokes.{curves, lines, lines_then_curve}
use Rattle.postscript_drawing.proofs.DrawsLaws.{first-refused, joined, passed-on}
use Rattle.postscript_drawing.proofs.pen.Pen.lines_then_curve.Goals as goal

pub returns-in_err-lines : goal.returns-in_err-lines
returns-in_err-lines g c =
    let is : lines_then_curve c.args.operands.now ≡ lines c.split_at.result.0.now ++ curves c.split_at.result.1.now = search rules in
    passed-on c.from_residual.result c.in_err-lines.field-0.0 c.from_residual.ensures.1
    (rw is (first-refused (curves c.split_at.result.1.now) c.in_err-lines.ensures))

pub returns : goal.returns
returns g c =
    let is : lines_then_curve c.args.operands.now ≡ lines c.split_at.result.0.now ++ curves c.split_at.result.1.now = search rules in
    rw is (joined c.in_ok-lines.ensures c.curves.ensures)

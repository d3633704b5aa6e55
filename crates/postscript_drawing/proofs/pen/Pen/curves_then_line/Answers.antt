use Rattle.std.proofs.Common.{◌≡◌, ◌++◌, rules}
use Rattle.postscript_drawing.specs.Strokes.{curves, lines, curves_then_line}
use Rattle.postscript_drawing.proofs.DrawsLaws.{first-refused, joined, passed-on}
use Rattle.postscript_drawing.proofs.pen.Pen.curves_then_line.Goals as goal

pub returns-in_err-curves : goal.returns-in_err-curves
returns-in_err-curves g c =
    let is : curves_then_line c.args.operands.now ≡ curves c.split_at.result.0.now ++ lines c.split_at.result.1.now = search rules in
    passed-on c.from_residual.result c.in_err-curves.field-0.0 c.from_residual.ensures.1
    (rw is (first-refused (lines c.split_at.result.1.now) c.in_err-curves.ensures))

pub returns : goal.returns
returns g c =
    let is : curves_then_line c.args.operands.now ≡ curves c.split_at.result.0.now ++ lines c.split_at.result.1.now = search rules in
    rw is (joined c.in_ok-curves.ensures c.lines.ensures)

use Rattle.std.proofs.Common.{◌≡◌, [], ◌∷◌, pos, rules}
use Rattle.postscript_drawing.specs.declared.stroke.Stroke.{Stroke}
use Rattle.postscript_drawing.specs.declared.stroke.Stroke.TheVariants.{Curve}
use Rattle.postscript_drawing.specs.Strokes.{curves_along}
use Rattle.postscript_drawing.proofs.DrawsLaws.{SoFar, passed-on, so_more, so_refused}
use Rattle.postscript_drawing.proofs.pen.Pen.curves_along.Goals as goal

pub returns-in_err-curve_by : goal.returns-in_err-curve_by
returns-in_err-curve_by g c =
    let stroke : Stroke = Curve c.in-Some.bend.a c.in-Some.bend.b c.in-Some.bend.c in
    let left = curves_along c.args.axis c.loop-bend.off c.loop-bend.ahead.now in
    let rest = curves_along c.args.axis (pos 0) c.in-Some.bend.rest.now in
    let all : left ≡ stroke ∷ rest = search rules in
    let far : SoFar g.S.Sink.after g.S.Sink.refuses (curves_along c.args.axis c.args.first c.args.operands.now) left c.args.self.now
    (g.S.Sink.state c.args.sink.now) c.loop-bend.self (g.S.Sink.state c.loop-bend.sink) = search rules in
    passed-on c.from_residual.result c.in_err-curve_by.field-0.0 c.from_residual.ensures.1
    (so_refused (stroke ∷ []) rest all far c.in_err-curve_by.ensures)

pub loop-bend-preserved : goal.loop-bend-preserved
loop-bend-preserved g c =
    let stroke : Stroke = Curve c.in-Some.bend.a c.in-Some.bend.b c.in-Some.bend.c in
    let left = curves_along c.args.axis c.loop-bend.off c.loop-bend.ahead.now in
    let rest = curves_along c.args.axis (pos 0) c.in-Some.bend.rest.now in
    let all : left ≡ stroke ∷ rest = search rules in
    let far : SoFar g.S.Sink.after g.S.Sink.refuses (curves_along c.args.axis c.args.first c.args.operands.now) left c.args.self.now
    (g.S.Sink.state c.args.sink.now) c.loop-bend.self (g.S.Sink.state c.loop-bend.sink) = search rules in
    let more = so_more (stroke ∷ []) rest all far c.in_ok-curve_by.ensures in
    search rules

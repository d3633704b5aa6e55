use Rattle.std.proofs.Common.{length}
use Rattle.postscript_drawing.specs.Strokes.{curves_along}
use Rattle.postscript_drawing.proofs.DrawsLaws.{SoFar}
use Rattle.postscript_drawing.proofs.pen.Pen.curves_along.Given as goal

-- some are drawn, and these are left
abbrev pub invariant-loop-bend : goal.invariant-loop-bend
invariant-loop-bend g l =
    SoFar g.S.Sink.after g.S.Sink.refuses (curves_along l.axis l.fn.first l.fn.operands) (curves_along l.axis l.off l.ahead) l.fn.self
    (g.S.Sink.state l.fn.sink) l.self (g.S.Sink.state l.sink)

abbrev pub decreases-loop-bend : goal.decreases-loop-bend
decreases-loop-bend g l = length (curves_along l.axis l.off l.ahead)

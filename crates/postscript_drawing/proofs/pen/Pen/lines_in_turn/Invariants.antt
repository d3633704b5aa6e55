use Rattle.std.proofs.Common.{length}
use Rattle.postscript_drawing.specs.Strokes.{lines_in_turn}
use Rattle.postscript_drawing.proofs.DrawsLaws.{SoFar}
use Rattle.postscript_drawing.proofs.pen.Pen.lines_in_turn.Given as goal

-- some are drawn, and these are left
abbrev pub invariant-loop-a : goal.invariant-loop-a
invariant-loop-a g l =
    SoFar g.S.Sink.after g.S.Sink.refuses (lines_in_turn l.first l.fn.operands) (lines_in_turn l.first l.ahead) l.fn.self
    (g.S.Sink.state l.fn.sink) l.self (g.S.Sink.state l.sink)

abbrev pub decreases-loop-a : goal.decreases-loop-a
decreases-loop-a g l = length (lines_in_turn l.first l.ahead)

use Rattle.std.proofs.Common.{◌≡◌}
use Rattle.postscript_drawing.proofs.DrawsLaws.{SoFar}
use Rattle.postscript_drawing.proofs.ProgramLaws.{pen_at, strokes_of}
use Rattle.postscript_variable_font.proofs.drawing.draw_program.Given as goal
use Rattle.postscript_variable.specs.Limit.{Spends}

-- some is drawn, and what the program still answers is left
abbrev pub invariant-loop-operator : goal.invariant-loop-operator
invariant-loop-operator g l = record {
  far : SoFar g.S.Sink.after g.S.Sink.refuses (strokes_of l.fn.program.answers) (strokes_of l.program.answers) (pen_at l.fn.origin)
      (g.S.Sink.state l.fn.sink) l.pen (g.S.Sink.state l.sink);
  end : l.program.end ≡ l.fn.program.end;
  spends : Spends l.fn.limit l.fn.program.costs l.limit l.program.costs;
}

-- each operation takes something of the limit
abbrev pub decreases-loop-operator : goal.decreases-loop-operator
decreases-loop-operator g l = l.limit

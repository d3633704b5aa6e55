use Rattle.std.proofs.Common.{◌≡◌}
use Rattle.postscript_drawing.proofs.DrawsLaws.{SoFar}
use Rattle.postscript_drawing.proofs.ProgramLaws.{pen_at, strokes_of}
use Rattle.postscript_drawing.proofs.program.draw_program.Given as goal
use Rattle.postscript_type2.specs.Program.Limit.{Spends}
use Rattle.postscript_type2.specs.Program.Runs.{last_width}

-- some is drawn, and what the program still answers is left
abbrev pub invariant-loop-operator : goal.invariant-loop-operator
invariant-loop-operator g l = record {
  far : SoFar g.S.Sink.after g.S.Sink.refuses (strokes_of l.fn.program.answers) (strokes_of l.program.answers) (pen_at l.fn.origin)
      (g.S.Sink.state l.fn.sink) l.pen (g.S.Sink.state l.sink);
  end : l.program.end ≡ l.fn.program.end;
  width : last_width l.program.width l.program.answers ≡ last_width l.fn.program.width l.fn.program.answers;
  spends : Spends l.fn.limit l.fn.program.trace l.limit l.program.trace;
}

-- each operation takes something of the limit
abbrev pub decreases-loop-operator : goal.decreases-loop-operator
decreases-loop-operator g l = l.limit

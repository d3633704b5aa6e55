-- The outline of a run.
use Rattle.std.specs.Prelude.{◌≡◌, List, [], ◌∷◌, Result, Ok, Err}
use Rattle.postscript_base.specs.Refusal.{Refusal}
use Rattle.postscript_outline.specs.declared.outline.Outline.{Outline}
use Rattle.postscript_outline.specs.declared.point.Point.{Point}
use Rattle.postscript_outline.specs.declared.segment.Segment.{Segment}
use Rattle.postscript_drawing.specs.Drawing.{Drawing, ◌>>=◌, blank, blank_at, closed, drawing}
use Rattle.postscript_drawing.specs.Operators.{strokes}
use Rattle.postscript_type2.specs.Program.Runs.{Answer, End, Fault, Run, width_of}

-- operations, drawn one after another
abbrev pub drawing_of : List Answer → Drawing → Result Drawing Refusal
drawing_of [] d = Ok d
drawing_of (answer ∷ answers) d = drawing (strokes answer.operator answer.operands) d >>= drawing_of answers

-- the segments at the end of a run, where the contour is also closed, or the fault there
abbrev pub finished : End → Drawing → Result (List Segment) Refusal
finished (Fault e) d = Err e
finished end d = Ok (closed d).segments

-- the segments that these operations and this end draw, from the origin
abbrev pub outlined : List Answer → End → Result (List Segment) Refusal
outlined answers end = drawing_of answers blank >>= finished end

-- the same with the origin of the glyph at a point
abbrev pub outlined_at : Point → List Answer → End → Result (List Segment) Refusal
outlined_at origin answers end = drawing_of answers (blank_at origin) >>= finished end

abbrev pub outline_of : Run → Result (List Segment) Refusal
outline_of run = outlined run.answers run.end

-- a run has this outline, and its width
pub record Outlines (outline : Outline) (run : Run) : Type 0 where
  pub segments : outline_of run ≡ Ok outline.segments.items
  pub width : outline.width_difference ≡ width_of run

-- The outline of a list of operations.
use Rattle.std.specs.declared.alloc.Global.{Global}
use Rattle.std.specs.Prelude.{◌≡◌, ℤ, List, [], ◌∷◌, map, Option, Result, Ok, Vec}
use Rattle.postscript_base.specs.Refusal.{Refusal}
use Rattle.postscript_drawing.specs.Applying.{applied}
use Rattle.postscript_outline.specs.declared.outline.Outline.{Outline}
use Rattle.postscript_outline.specs.declared.segment.Segment.{Segment}
use Rattle.postscript_drawing.specs.Drawing.{Drawing, ◌>>=◌, blank}
use Rattle.postscript_drawing.specs.Outline.{finished}
use Rattle.postscript_type2.specs.declared.operation.Operator.{Operator}
use Rattle.postscript_type2.specs.Program.Runs.{Answer, no_hints, Finished, Run, width_of}

-- an operation of a run, with this width and no hints
abbrev pub answer_of : Option ℤ → Operator × Vec ℤ Global → Answer
answer_of width operation = record { operator = operation.0; operands = operation.1.items; hints = no_hints; width = width }

abbrev pub answers_of : Option ℤ → List (Operator × Vec ℤ Global) → List Answer
answers_of width operations = map (answer_of width) operations

-- a run with these operations and this width, which ends at an `endchar` that takes no operands
abbrev pub run_telling : List (Operator × Vec ℤ Global) → Option ℤ → Run
run_telling operations width = record { answers = answers_of width operations; trace = []; end = Finished [] width }

-- operations, applied one after another
abbrev pub applied_all : List Answer → Drawing → Result Drawing Refusal
applied_all [] d = Ok d
applied_all (answer ∷ answers) d = applied answer.operator answer.operands d >>= applied_all answers

-- The outline of a run, if each operation has a number of operands that its operator takes. The first operation that has not, or whose
-- strokes leave the range, gives the error.
abbrev pub outline_applied : Run → Result (List Segment) Refusal
outline_applied run = applied_all run.answers blank >>= finished run.end

-- a run has this outline, and its width
pub record OutlinesApplied (outline : Outline) (run : Run) : Type 0 where
  pub segments : outline_applied run ≡ Ok outline.segments.items
  pub width : outline.width_difference ≡ width_of run

-- The numbers of operands of operators.
use Rattle.std.specs.Prelude.{ℕ, List}
use Rattle.postscript_drawing.specs.Fitting.{AllFit}
use Rattle.postscript_variable.specs.State.{Font}
use Rattle.postscript_variable.specs.Evaluation.{run_of}

-- A law of the definitions: each operation of a run has a number of operands that its operator takes.
abbrev pub RunsFit : Type 0
RunsFit = (font : Font) (index : ℕ) (code : List ℕ) → AllFit (run_of font index code).answers

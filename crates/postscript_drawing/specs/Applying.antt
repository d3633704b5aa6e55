-- The drawing after an operator. It fails if the operator takes another number of operands.
use Rattle.std.specs.Prelude.{ℤ, List, Result, Err, if◌then◌else◌}
use Rattle.postscript_base.specs.Refusal.{Refusal, malformed_operands}
use Rattle.postscript_drawing.specs.Drawing.{Drawing, drawing}
use Rattle.postscript_drawing.specs.Fitting.{fits}
use Rattle.postscript_drawing.specs.Operators.{strokes}
use Rattle.postscript_type2.specs.declared.operation.Operator.{Operator}

abbrev pub applied : Operator → List ℤ → Drawing → Result Drawing Refusal
applied op operands d = if fits op operands then drawing (strokes op operands) d else Err malformed_operands

use Rattle.std.proofs.Common.{◌≡◌, drop}
use Rattle.postscript_drawing.specs.Drawing.{blank, held}
use Rattle.postscript_drawing.specs.Operations.{answers_of, applied_all}
use Rattle.postscript_drawing.proofs.operations.outline_by_pen.Given as goal

-- what is left, applied from here, is what all of it draws
abbrev pub invariant-loop-operation : goal.invariant-loop-operation
invariant-loop-operation l =
    applied_all (answers_of l.width (drop l.operation-index l.operations)) (held l.pen l.segments.items) ≡ applied_all
    (answers_of l.width l.operations) blank

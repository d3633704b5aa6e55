use Rattle.std.proofs.Common.{[], ◌∷◌}
use Rattle.postscript_drawing.proofs.DrawsLaws.{at_first, first-refused, joined, passed-on, so_all}
use Rattle.postscript_drawing.proofs.pen.Pen.flexes.Goals as goal

pub returns-in_default : goal.returns-in_default
returns-in_default g c = λ flex. so_all (c.in_default.ensures.flex flex) at_first

pub returns-in_err-draw : goal.returns-in_err-draw
returns-in_err-draw g c = λ flex.
    passed-on c.from_residual.result c.in_err-draw.field-0.0 c.from_residual.ensures.1
    (rw (c.in-Some.ensures.flex flex) (first-refused (c.in-Some.second ∷ []) c.in_err-draw.ensures))

pub returns : goal.returns
returns g c = λ flex. rw (c.in-Some.ensures.flex flex) (joined c.in_ok-draw.ensures c.draw-2.ensures)

use Rattle.std.proofs.Common.{sym, subst}
use Rattle.postscript_outline.proofs.tight.of_segment.Goals as goal
use Rattle.postscript_outline.proofs.Tightening.{of-curve}
use Rattle.postscript_outline.specs.Tight.{TightlyBounded, arcs_of}

pub returns-in-MoveTo : goal.returns-in-MoveTo
returns-in-MoveTo c =
    subst (λ s. TightlyBounded c.of_curve.result (arcs_of c.args.from s)) (sym c.in-MoveTo.is)
    (of-curve c.of_curve.result _ c.of_curve.ensures)

pub returns-in-LineTo : goal.returns-in-LineTo
returns-in-LineTo c =
    subst (λ s. TightlyBounded c.of_curve-in-LineTo.result (arcs_of c.args.from s)) (sym c.in-LineTo.is)
    (of-curve c.of_curve-in-LineTo.result _ c.of_curve-in-LineTo.ensures)

pub returns-in-CurveTo : goal.returns-in-CurveTo
returns-in-CurveTo c =
    subst (λ s. TightlyBounded c.of_curve-in-CurveTo.result (arcs_of c.args.from s)) (sym c.in-CurveTo.is)
    (of-curve c.of_curve-in-CurveTo.result _ c.of_curve-in-CurveTo.ensures)

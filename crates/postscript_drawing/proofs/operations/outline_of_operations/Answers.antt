use Rattle.postscript_drawing.proofs.OperationLaws.{of-contours, of-drawn, of-fitting}
use Rattle.postscript_drawing.proofs.operations.outline_of_operations.Goals as goal
use Rattle.postscript_drawing.specs.Operations.{run_telling}

pub returns-clause-drawn : goal.returns-clause-drawn
returns-clause-drawn c = of-drawn _ (run_telling c.args.operations.now c.args.width) c.outline_by_pen.result c.outline_by_pen.ensures.exact

pub returns-clause-fit : goal.returns-clause-fit
returns-clause-fit c = of-fitting _ (run_telling c.args.operations.now c.args.width) c.outline_by_pen.result c.outline_by_pen.ensures.exact

pub returns-clause-contours : goal.returns-clause-contours
returns-clause-contours c = of-contours _ (run_telling c.args.operations.now c.args.width) c.outline_by_pen.result c.outline_by_pen.ensures.exact

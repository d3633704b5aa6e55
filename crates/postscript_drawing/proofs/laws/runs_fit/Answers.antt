use Rattle.postscript_drawing.proofs.FittingLaws.{runs-fit}
use Rattle.postscript_drawing.proofs.laws.runs_fit.Goals as goal

pub returns : goal.returns
returns c = runs-fit

use Rattle.postscript_variable_font.proofs.FittingLaws as fitting
use Rattle.postscript_variable_font.proofs.laws.runs_fit.Goals as goal

pub returns : goal.returns
returns c = fitting.runs-fit

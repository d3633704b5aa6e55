use Rattle.postscript_variable_font.proofs.OneRun as one
use Rattle.postscript_variable_font.proofs.laws.one_run.Goals as goal

pub returns : goal.returns
returns c = one.law

use Rattle.postscript_variable.proofs.DefaultLaws as defaults
use Rattle.postscript_variable.proofs.laws.defaults_stay.Goals as goal

pub returns : goal.returns
returns c = defaults.law

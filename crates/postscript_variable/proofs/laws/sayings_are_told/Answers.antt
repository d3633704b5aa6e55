use Rattle.postscript_variable.proofs.SaysLaws as says
use Rattle.postscript_variable.proofs.laws.sayings_are_told.Goals as goal

pub returns-clause-computed : goal.returns-clause-computed
returns-clause-computed c = says.computed

pub returns-clause-answered : goal.returns-clause-answered
returns-clause-answered c = says.answered

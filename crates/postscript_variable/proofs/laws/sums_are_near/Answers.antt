use Rattle.postscript_variable.proofs.NearLaws as near
use Rattle.postscript_variable.proofs.laws.sums_are_near.Goals as goal

pub returns : goal.returns
returns c = near.law

use Rattle.postscript_type2.proofs.OperatorLaws as lines
use Rattle.postscript_type2.proofs.laws.operators_do_so.Goals as goal

pub returns : goal.returns
returns c = lines.law

use Rattle.postscript_variable.proofs.Limit as limit
use Rattle.postscript_variable.proofs.laws.limit_is_cost.Goals as goal

pub returns-clause-spent : goal.returns-clause-spent
returns-clause-spent c = limit.spent

pub returns-clause-lasts : goal.returns-clause-lasts
returns-clause-lasts c = limit.lasts

pub returns-clause-bounds : goal.returns-clause-bounds
returns-clause-bounds c = limit.bounds

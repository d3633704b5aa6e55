use Rattle.postscript_type2.proofs.Limit.{spent, lasts, bounds, flat-bounded}
use Rattle.postscript_type2.proofs.laws.limit_is_cost.Goals as goal

pub returns : goal.returns
returns c = record { spent = spent; lasts = lasts; bounds = bounds; flat = flat-bounded }

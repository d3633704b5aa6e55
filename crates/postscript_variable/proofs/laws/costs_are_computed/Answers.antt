use Rattle.postscript_variable.proofs.CostLaws.{computed}
use Rattle.postscript_variable.proofs.laws.costs_are_computed.Goals as goal

pub returns : goal.returns
returns c = computed

use Rattle.postscript_instance.proofs.Operations as operations
use Rattle.postscript_instance.proofs.laws.operations_stay.Goals as goal

pub returns : goal.returns
returns c = operations.law

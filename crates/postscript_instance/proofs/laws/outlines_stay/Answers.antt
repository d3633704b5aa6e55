use Rattle.postscript_instance.proofs.Operations as operations
use Rattle.postscript_instance.proofs.laws.outlines_stay.Goals as goal

pub returns : goal.returns
returns c = operations.outlines

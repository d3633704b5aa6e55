use Rattle.postscript_variation.proofs.NearSums.{nearest, wholes}
use Rattle.postscript_variation.proofs.laws.whole_units_are_nearest.Goals as goal

pub returns : goal.returns
returns c = record { law = nearest; near = wholes }

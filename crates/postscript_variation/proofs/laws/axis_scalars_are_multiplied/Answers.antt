use Rattle.postscript_variation.proofs.NearScalars.{multiplied}
use Rattle.postscript_variation.proofs.laws.axis_scalars_are_multiplied.Goals as goal

pub returns : goal.returns
returns c = record { law = multiplied }

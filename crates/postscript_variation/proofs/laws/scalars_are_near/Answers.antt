use Rattle.postscript_variation.proofs.NearScalars.{exact, near}
use Rattle.postscript_variation.proofs.laws.scalars_are_near.Goals as goal

pub returns : goal.returns
returns c = record { near = near; exact = exact }

use Rattle.postscript_variation.proofs.Segments.{maps}
use Rattle.postscript_variation.proofs.laws.maps_so.Goals as goal

pub returns : goal.returns
returns c = record { law = maps }

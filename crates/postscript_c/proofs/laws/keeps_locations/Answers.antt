use Rattle.postscript_c.proofs.LocationLaw.{keeps_locations}
use Rattle.postscript_c.proofs.laws.keeps_locations.Goals as goal

pub returns : goal.returns
returns c = record { law = keeps_locations }

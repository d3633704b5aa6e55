use Rattle.postscript_c.proofs.SameDrawings.{draws_in_place}
use Rattle.postscript_c.proofs.laws.draws_in_place.Goals as goal

pub returns : goal.returns
returns c = record { law = draws_in_place }

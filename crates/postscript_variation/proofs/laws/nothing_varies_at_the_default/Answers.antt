use Rattle.postscript_variation.proofs.Resting.{asked_for_none, scalars, sums}
use Rattle.postscript_variation.proofs.laws.nothing_varies_at_the_default.Goals as goal

pub returns : goal.returns
returns c = record { coordinates = asked_for_none; scalars = scalars; sums = sums }

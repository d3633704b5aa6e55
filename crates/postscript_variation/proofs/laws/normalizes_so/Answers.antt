use Rattle.postscript_variation.proofs.Normalization.{normalizes}
use Rattle.postscript_variation.proofs.laws.normalizes_so.Goals as goal

pub returns : goal.returns
returns c = record { law = normalizes }

use Rattle.postscript_variation.proofs.NearSums.{exact, sums, variations}
use Rattle.postscript_variation.proofs.laws.sums_are_near.Goals as goal

pub returns : goal.returns
returns c = record { near = sums; answered = variations; exact = exact }

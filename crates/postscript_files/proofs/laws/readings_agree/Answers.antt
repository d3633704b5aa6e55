use Rattle.postscript_files.proofs.Readings.{readings-agree}
use Rattle.postscript_files.proofs.laws.readings_agree.Goals as goal

pub returns : goal.returns
returns c = record { law = readings-agree }

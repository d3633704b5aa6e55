use Rattle.postscript_layout.proofs.Stays.{stays}
use Rattle.postscript_layout.proofs.laws.text_stays.Goals as goal

pub returns : goal.returns
returns c = stays

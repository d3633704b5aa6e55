use Rattle.postscript_layout_write.proofs.Calling.{stays}
use Rattle.postscript_layout_write.proofs.laws.text_stays.Goals as goal

pub returns : goal.returns
returns c = stays c.text_stays.ensures

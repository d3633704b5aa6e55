use Rattle.postscript_outline.proofs.Receiving.{list-received}
use Rattle.postscript_outline.proofs.laws.lists_take_in_segments.Goals as goal

pub returns : goal.returns
returns c = λ segments old new is. list-received segments old new is

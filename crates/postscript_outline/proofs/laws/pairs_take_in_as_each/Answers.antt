use Rattle.postscript_outline.proofs.Receiving.{each-received, pair-received}
use Rattle.postscript_outline.proofs.laws.pairs_take_in_as_each.Goals as goal

pub returns : goal.returns
returns c = λ _ segments old new. (each-received _ _ _ _ segments old new, pair-received _ _ _ _ segments old new)

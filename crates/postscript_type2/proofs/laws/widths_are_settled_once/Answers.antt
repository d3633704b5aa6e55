use Rattle.postscript_type2.proofs.WidthLaws as widths
use Rattle.postscript_type2.proofs.laws.widths_are_settled_once.Goals as goal

pub returns : goal.returns
returns c = widths.law

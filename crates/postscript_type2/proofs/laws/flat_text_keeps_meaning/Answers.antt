use Rattle.postscript_type2.proofs.Inlining.{law as keeps}
use Rattle.postscript_type2.proofs.laws.flat_text_keeps_meaning.Goals as goal

pub returns : goal.returns
returns c = record { law = keeps }

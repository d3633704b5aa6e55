use Rattle.postscript_c.proofs.SameParts.{keeps_parts}
use Rattle.postscript_c.proofs.laws.keeps_parts.Goals as goal

pub returns : goal.returns
returns c = record { law = keeps_parts }

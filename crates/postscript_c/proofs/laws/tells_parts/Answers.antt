use Rattle.postscript_c.proofs.SameParts.{tells_parts}
use Rattle.postscript_c.proofs.laws.tells_parts.Goals as goal

pub returns : goal.returns
returns c = record { law = tells_parts }

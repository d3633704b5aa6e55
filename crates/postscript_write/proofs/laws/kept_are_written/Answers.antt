use Rattle.postscript_write.proofs.Told.{kept-are-written}
use Rattle.postscript_write.proofs.laws.kept_are_written.Goals as goal

pub returns : goal.returns
returns c = record { law = kept-are-written }

use Rattle.postscript_files.proofs.Same.{kept-are-the-same}
use Rattle.postscript_files.proofs.laws.kept_are_the_same.Goals as goal

pub returns : goal.returns
returns c = record { law = kept-are-the-same }

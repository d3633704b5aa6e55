use Rattle.postscript_base.proofs.NotOpened.{opens_no_others}
use Rattle.postscript_base.proofs.Opening.{opens_indices}
use Rattle.postscript_base.proofs.index.laws.opens_indices.Goals as goal

pub returns-clause-law : goal.returns-clause-law
returns-clause-law c = opens_indices

pub returns-clause-fails : goal.returns-clause-fails
returns-clause-fails c = opens_no_others

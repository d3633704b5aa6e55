use Rattle.std.proofs.Common.{rules}
use Rattle.postscript_compact1.proofs.index.LengthSource.read.Goals as goal

pub returns-clause-exact : goal.returns-clause-exact
returns-clause-exact g c = search rules steps 300000

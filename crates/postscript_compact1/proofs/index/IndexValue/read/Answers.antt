use Rattle.std.proofs.Common.{rules}
use Rattle.postscript_compact1.specs.Index.{index}
use Rattle.postscript_compact1.proofs.index.IndexValue.read.Goals as goal

pub returns-then-count-eq0-clause-exact : goal.returns-then-count-eq0-clause-exact
unfolding index
returns-then-count-eq0-clause-exact g c = search rules steps 300000

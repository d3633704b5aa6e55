use Rattle.std.proofs.Common.{rules}
use Rattle.postscript_compact1.specs.CharSets.{range}
use Rattle.postscript_compact1.proofs.char_set.range.Range2Value.read.Goals as goal

pub returns-clause-exact : goal.returns-clause-exact
unfolding range
returns-clause-exact g c = search rules steps 1000000

use Rattle.std.proofs.Common.{rules}
use Rattle.postscript_compact1.specs.CharSets.{covering}
use Rattle.postscript_compact1.proofs.char_set.range.read_covering.Goals as goal

pub returns-clause-exact : goal.returns-clause-exact
unfolding covering
returns-clause-exact g c = search rules steps 1000000

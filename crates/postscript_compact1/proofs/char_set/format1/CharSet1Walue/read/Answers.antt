use Rattle.std.proofs.Common.{rules}
use Rattle.postscript_compact1.specs.CharSets.{char_set_of}
use Rattle.postscript_compact1.proofs.char_set.format1.CharSet1Walue.read.Goals as goal

pub returns-in_default-clause-exact : goal.returns-in_default-clause-exact
unfolding char_set_of
returns-in_default-clause-exact g c = search rules steps 1000000

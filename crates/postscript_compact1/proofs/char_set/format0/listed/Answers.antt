use Rattle.std.proofs.Common.{rules}
use Rattle.postscript_compact1.specs.CharSets.{listed}
use Rattle.postscript_compact1.proofs.char_set.format0.listed.Goals as goal

pub returns-then-glyphs-eq0-clause-exact : goal.returns-then-glyphs-eq0-clause-exact
unfolding listed
returns-then-glyphs-eq0-clause-exact g c = search rules steps 300000

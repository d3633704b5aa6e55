use Rattle.std.proofs.Common.{rules}
use Rattle.postscript_compact1.specs.Computed.Parts.{private}
use Rattle.postscript_compact1.proofs.font_set.parts.private.Goals as goal

pub returns-clause-exact : goal.returns-clause-exact
unfolding private
returns-clause-exact g c = search rules steps 1000000

use Rattle.std.proofs.Common.{rules}
use Rattle.postscript_compact1.specs.Computed.Parts.{own_locals}
use Rattle.postscript_compact1.proofs.font_set.parts.own_locals.Goals as goal

pub returns-clause-exact : goal.returns-clause-exact
unfolding own_locals
returns-clause-exact g c = search rules steps 1000000

use Rattle.std.proofs.Common.{rules}
use Rattle.postscript_compact1.specs.Computed.Parts.{locals}
use Rattle.postscript_compact1.proofs.font_set.parts.locals.Goals as goal

pub returns-then-goes_without-clause-exact : goal.returns-then-goes_without-clause-exact
unfolding locals
returns-then-goes_without-clause-exact g c = search rules steps 1000000

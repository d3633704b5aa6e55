use Rattle.std.proofs.Common.{rules}
use Rattle.postscript_compact1.specs.Computed.Parts.{subroutines}
use Rattle.postscript_compact1.proofs.font_set.parts.subroutines.Goals as goal

pub returns-in_err-place-clause-exact : goal.returns-in_err-place-clause-exact
unfolding subroutines
returns-in_err-place-clause-exact g c = search rules

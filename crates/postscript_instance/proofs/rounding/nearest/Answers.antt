use Rattle.std.proofs.Common.{rules}
use Rattle.postscript_instance.specs.Nearest.{nearest}
use Rattle.postscript_instance.proofs.rounding.nearest.Goals as goal

pub returns : goal.returns
unfolding nearest
returns c = search rules

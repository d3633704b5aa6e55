use Rattle.std.proofs.Common.{arith}
use Rattle.postscript_base.proofs.DictionaryMaps.{get_listed}
use Rattle.postscript_view.proofs.operands.tells.Goals as goal

pub returns : goal.returns
returns c = grind (arith, get_listed)

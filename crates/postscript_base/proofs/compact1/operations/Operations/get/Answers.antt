use Rattle.std.proofs.Common.{arith}
use Rattle.postscript_base.proofs.DictionaryMaps.{get_listed, items}
use Rattle.postscript_base.proofs.compact1.operations.Operations.get.Goals as goal

pub returns-in-Some : goal.returns-in-Some
returns-in-Some c = grind (arith, items, get_listed)

pub returns-in-None : goal.returns-in-None
returns-in-None c = grind (arith, items, get_listed)

use Rattle.std.proofs.Common.{rules}
use Rattle.postscript_compact1.specs.Computed.Order.{behind}
use Rattle.postscript_compact1.proofs.font_set.tables.read_behind.Goals as goal

pub returns-in_default-clause-exact : goal.returns-in_default-clause-exact
unfolding behind
returns-in_default-clause-exact g c = search rules steps 1000000

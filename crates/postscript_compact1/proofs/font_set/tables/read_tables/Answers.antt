use Rattle.std.proofs.Common.{rules}
use Rattle.postscript_compact1.specs.Computed.Order.{tables}
use Rattle.postscript_compact1.proofs.font_set.tables.read_tables.Goals as goal

pub returns-clause-exact : goal.returns-clause-exact
unfolding tables
returns-clause-exact g c = search rules steps 1000000

use Rattle.postscript_subset.specs.Vertical.{made}
use Rattle.postscript_subset.proofs.vertical.vorg_in.Goals as goal

pub returns-in_ok-tables-in-Some-clause-tables : goal.returns-in_ok-tables-in-Some-clause-tables
returns-in_ok-tables-in-Some-clause-tables c = made c.in-Some.vorg.now c.in-Some.ensures c.in_ok-tables-in-Some.ensures.tables

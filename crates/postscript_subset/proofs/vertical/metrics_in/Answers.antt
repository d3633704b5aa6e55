use Rattle.postscript_subset.specs.Vertical.{made}
use Rattle.postscript_subset.proofs.vertical.metrics_in.Goals as goal

pub returns-in_ok-tables-in-Some-Some-clause-tables : goal.returns-in_ok-tables-in-Some-Some-clause-tables
returns-in_ok-tables-in-Some-Some-clause-tables c =
    made c.in-Some-Some.vhea.now c.in-Some-Some.vmtx.now c.in-Some-Some.ensures c.in-Some-Some.ensures' c.in_ok-tables-in-Some-Some.ensures.tables

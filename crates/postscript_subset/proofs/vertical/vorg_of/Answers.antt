use Rattle.std.proofs.Common.{ap, refl}
use Rattle.std.specs.Prelude.{map}
use Rattle.postscript_subset.specs.Subsets.{shown}
use Rattle.postscript_subset.specs.Vertical.{kept, refused}
use Rattle.postscript_subset.proofs.vertical.vorg_of.Goals as goal

pub returns-in_ok-push-in-Ok-clause-tables : goal.returns-in_ok-push-in-Ok-clause-tables
returns-in_ok-push-in-Ok-clause-tables c =
    kept c.in-Ok.bytes.items c.in-Ok.ensures.kept (rw (c.in_ok-push-in-Ok.ensures.items, c.new-tables.ensures.items) refl)

pub returns-in_ok-unless_memory-in-Err-clause-tables : goal.returns-in_ok-unless_memory-in-Err-clause-tables
returns-in_ok-unless_memory-in-Err-clause-tables c =
    refused c.in-Err.fault c.in_ok-unless_memory-in-Err.ensures.refused c.in-Err.ensures.why (ap (map shown) c.new-tables.ensures.items)

use Rattle.postscript_write.proofs.Stopping.{not-stopped}
use Rattle.postscript_write.specs.Refusals.{IsSubsetRefusedBy}
use Rattle.postscript_write.specs.Sources.{chosen}
use Rattle.postscript_write.proofs.fonts.subset.Goals as goal

pub returns-in-Err-clause-refused : goal.returns-in-Err-clause-refused
returns-in-Err-clause-refused c =
    let named = c.args.named.now in
    let bytes = c.args.bytes.now in
    not-stopped (IsSubsetRefusedBy named chosen bytes c.in-Err.error) bytes named c.in-Err.error c.in-Err.ensures.refused

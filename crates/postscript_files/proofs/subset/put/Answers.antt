use Rattle.std.proofs.Common.{sym, subst, List}
use Rattle.postscript_sfnt_write.specs.declared.file.Table.{Table}
use Rattle.postscript_files.specs.Listed.{Puts}
use Rattle.postscript_files.proofs.Listing.{puts}
use Rattle.postscript_files.proofs.subset.put.Goals as goal

pub returns-clause-put : goal.returns-clause-put
returns-clause-put c =
    subst (λ (ts : List Table). Puts c.args.tables.now.items c.args.tag c.args.bytes.now ts) (sym c.in_ok-push.ensures.items)
    (puts c.args.tables.now.items (record { tag = c.args.tag; bytes = c.args.bytes }))

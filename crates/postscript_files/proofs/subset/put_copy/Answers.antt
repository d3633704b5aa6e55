use Rattle.postscript_files.proofs.Listing.{copy-adds, copy-there}
use Rattle.postscript_files.proofs.Others.{has-table}
use Rattle.postscript_files.proofs.Twice.{copy-counts}
use Rattle.postscript_files.proofs.subset.put_copy.Goals as goal

pub returns-in_ok-put-clause-adds : goal.returns-in_ok-put-clause-adds
returns-in_ok-put-clause-adds c =
    copy-adds c.args.file.now c.args.tag c.in-Some.bytes.now c.args.tables.now.items c.put.new.tables.items c.in-Some.ensures
    c.in_ok-put.ensures.put

pub returns-in_ok-put-clause-there : goal.returns-in_ok-put-clause-there
returns-in_ok-put-clause-there c =
    copy-there c.args.file.now c.args.tag c.in-Some.bytes.now c.args.tables.now.items c.put.new.tables.items c.in-Some.ensures
    c.in_ok-put.ensures.put

pub returns-in_ok-put-clause-counts : goal.returns-in_ok-put-clause-counts
returns-in_ok-put-clause-counts c =
    copy-counts c.args.file.now c.args.tag c.args.tables.now.items c.put.new.tables.items
    (has-table c.args.file.now c.args.tag c.in-Some.bytes.now c.in-Some.ensures) c.in_ok-put.ensures.put.times

use Rattle.postscript_files.specs.Listed.{AreParts}
use Rattle.postscript_files.proofs.Listing.{if-parts, parts}
use Rattle.postscript_files.proofs.Twice.{if-not-parts}
use Rattle.postscript_files.proofs.subset.write_file.Goals as goal

all-parts : (c : goal.After-drop-tables-2) → AreParts c.args.choice.now c.args.face.now.file c.args.cff.now c.args.made.now c.put_copied.new.tables.items
all-parts c =
    parts c.args.choice.now c.args.face.now.file c.args.cff.now c.args.made.now c.in_ok-tables.tables.items c.put_given.new.tables.items
    c.put_copied.new.tables.items c.in_ok-tables.ensures.made c.in_ok-put_given.ensures.adds c.in_ok-put_given.ensures.there
    c.in_ok-put_copied.ensures.adds c.in_ok-put_copied.ensures.there

pub returns-clause-file : goal.returns-clause-file
returns-clause-file c =
    if-parts c.file_with.result c.args.choice.now c.args.face.now.file c.args.cff.now c.args.made.now c.put_copied.new.tables.items
    c.deref.result.now c.deref.ensures.value (all-parts c) c.file_with.ensures.file

pub returns-clause-refused : goal.returns-clause-refused
returns-clause-refused c =
    if-not-parts c.file_with.result c.args.choice.now c.args.face.now.file c.args.cff.now c.args.made.now c.in_ok-tables.tables.items
    c.put_given.new.tables.items c.put_copied.new.tables.items c.deref.result.now c.deref.ensures.value c.in_ok-tables.ensures.made.times
    c.in_ok-put_given.ensures.counts c.in_ok-put_copied.ensures.counts (all-parts c) c.file_with.ensures.refused c.file_with.ensures.once

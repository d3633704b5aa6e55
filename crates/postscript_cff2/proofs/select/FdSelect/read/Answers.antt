use Rattle.postscript_cff2.proofs.Selecting.{stand}
use Rattle.postscript_cff2.proofs.select.FdSelect.read.Goals as goal

pub returns-in_ok-read-in-3-clause-found : goal.returns-in_ok-read-in-3-clause-found
returns-in_ok-read-in-3-clause-found c =
    let found = c.in_ok-read-in-3.ensures.found in
    stand c.in_ok-read-in-3.field-0 c.args.bytes.now c.args.place c.args.glyphs found.0 found.1 found.2

pub returns-in_ok-read-in-4-clause-found : goal.returns-in_ok-read-in-4-clause-found
returns-in_ok-read-in-4-clause-found c =
    let found = c.in_ok-read-in-4.ensures.found in
    stand c.in_ok-read-in-4.field-0 c.args.bytes.now c.args.place c.args.glyphs found.0 found.1 found.2

use Rattle.postscript_vertical.proofs.Tables.{keeps, placed}
use Rattle.postscript_vertical.proofs.origins.kept_origins.Goals as goal

kept : goal.returns-clause-kept
kept c =
    keeps c.args.vorg.now c.args.origins.now c.in_ok-records.records.items c.in_ok-new.new.items c.word.result
    c.in_ok-read.ensures.exact c.in_ok-records.ensures.exact c.word.ensures.exact
    (rw c.deref.ensures.value at c.in_ok-new.ensures.exact)

pub returns-clause-kept : goal.returns-clause-kept
returns-clause-kept c = kept c

pub returns-clause-placed : goal.returns-clause-placed
returns-clause-placed c = placed c.args.vorg.now c.args.origins.now c.in_ok-new.new.items (kept c)

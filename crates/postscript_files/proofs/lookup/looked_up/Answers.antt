use Rattle.postscript_files.proofs.LookingUp.{among-same}
use Rattle.postscript_files.proofs.lookup.looked_up.Goals as goal

pub returns-clause-found : goal.returns-clause-found
returns-clause-found c =
    among-same c.each_looked_up.result c.args.map.now c.args.chars.now c.in_ok-all.all.items c.deref.result.now c.deref.ensures.value
    c.in_ok-all.ensures.same c.each_looked_up.ensures.found

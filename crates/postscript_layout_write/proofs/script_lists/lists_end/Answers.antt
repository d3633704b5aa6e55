use Rattle.postscript_layout_write.proofs.Ends.{lists-least}
use Rattle.postscript_layout_write.proofs.script_lists.lists_end.Goals as goal

pub returns-clause-exact : goal.returns-clause-exact
returns-clause-exact c = lists-least c.args.gpos.now c.in_ok-scripts.scripts c.in_ok-features.features c.later.result c.later-2.result
    c.in_ok-scripts.ensures.exact c.in_ok-features.ensures.exact c.later.ensures.a c.later.ensures.b c.later.ensures.least
    c.later-2.ensures.a c.later-2.ensures.b c.later-2.ensures.least

use Rattle.postscript_write.proofs.Accented.{both-if}
use Rattle.postscript_write.proofs.components.push_both.Goals as goal

pub returns-clause-pushed : goal.returns-clause-pushed
returns-clause-pushed c =
    both-if c.push_some-2.result c.args.font.now c.args.accent.now c.in_ok-base.base c.in_ok-above.above c.args.components.now.items
    c.push_some.new.components.items c.push_some-2.new.components.items
    c.in_ok-base.ensures.found c.in_ok-above.ensures.found c.in_ok-push_some.ensures.pushed c.push_some-2.ensures.pushed

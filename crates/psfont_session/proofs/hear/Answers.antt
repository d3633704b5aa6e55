use Rattle.psfont_session.proofs.Hearing.{goes_on}
use Rattle.psfont_session.proofs.hear.Goals as goal

pub returns-then-branch-clause-told : goal.returns-then-branch-clause-told
returns-then-branch-clause-told g c = goes_on _ _ _ _ c.loop.invariant c.in_ok-look.ensures.told

pub loop-preserved : goal.loop-preserved
loop-preserved g c = goes_on _ _ _ _ c.loop.invariant c.in_ok-look.ensures.told

use Rattle.postscript_compact1.proofs.GlyphRuns.{sought_found, sought_next, sought_none}
use Rattle.postscript_compact1.proofs.char_set.predefined.identifier.Goals as goal

pub returns-then-place-length : goal.returns-then-place-length
returns-then-place-length c = sought_found _ _ _ _ c.loop-first-test.true c.loop-first.invariant c.if-place-length.true

pub loop-first-preserved : goal.loop-first-preserved
loop-first-preserved c = sought_next _ _ _ _ c.loop-first-test.true c.loop-first.invariant c.if-place-length.false

pub returns : goal.returns
returns c = sought_none _ _ _ _ c.loop-first-test.false c.loop-first.invariant

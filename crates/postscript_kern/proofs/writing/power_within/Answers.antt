use Rattle.std.proofs.Common.{arith}
use Rattle.postscript_kern.proofs.Listing.{below-14}
use Rattle.postscript_kern.proofs.writing.power_within.Goals as goal

pub overflow_add-selector : goal.overflow_add-selector
overflow_add-selector c =
    let small = below-14 _ _ _ c.loop-power.invariant.is c.loop-power.invariant.least c.requires.few in
    omega (arith, small)

pub returns-clause-small : goal.returns-clause-small
returns-clause-small c = below-14 _ _ _ c.loop-power.invariant.is c.loop-power.invariant.least c.requires.few

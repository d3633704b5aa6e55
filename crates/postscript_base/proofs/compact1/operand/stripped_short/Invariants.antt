use Rattle.std.proofs.Common.{◌≡◌, ◌*◌, ◌^◌, ◌<◌}
use Rattle.postscript_base.proofs.compact1.operand.stripped_short.Given as goal

abbrev pub invariant-loop-short : goal.invariant-loop-short
invariant-loop-short l = record { whole : l.number ≡ l.short * 10 ^ l.zeros; positive : 0 < l.short }

abbrev pub decreases-loop-short : goal.decreases-loop-short
decreases-loop-short l = l.short

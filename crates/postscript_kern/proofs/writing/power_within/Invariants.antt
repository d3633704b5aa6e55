use Rattle.std.proofs.Common.{◌≡◌, ◌^◌, ◌≤◌, ◌-◌}
use Rattle.postscript_kern.proofs.writing.power_within.Given as goal

abbrev pub invariant-loop-power : goal.invariant-loop-power
invariant-loop-power l = record { is : l.power ≡ 2 ^ l.selector; least : l.power ≤ l.count; some : 1 ≤ l.power }

abbrev pub decreases-loop-power : goal.decreases-loop-power
decreases-loop-power l = l.count - l.power

use Rattle.std.proofs.Common.{◌≡◌, ◌++◌, length}
use Rattle.postscript_instance.specs.Axes.{bows}
use Rattle.postscript_instance.proofs.axes.put_bows.Given as goal

-- what was appended, and what is ahead, are all
abbrev pub invariant-loop-bow : goal.invariant-loop-bow
invariant-loop-bow l = l.out.items ++ bows l.begin l.end l.ahead ≡ l.fn.out.items ++ bows l.fn.begin l.fn.end l.fn.operands

abbrev pub decreases-loop-bow : goal.decreases-loop-bow
decreases-loop-bow l = length l.ahead

use Rattle.std.proofs.Common.{◌≡◌, ◌++◌, length}
use Rattle.postscript_instance.specs.Reals.{packed}
use Rattle.postscript_instance.proofs.reals.put_nibbles.Given as goal

-- the bytes so far, and those of the rest, are all
abbrev pub invariant-loop-rest : goal.invariant-loop-rest
invariant-loop-rest l = l.out.items ++ packed l.rest ≡ l.fn.out.items ++ packed l.fn.nibbles

abbrev pub decreases-loop-rest : goal.decreases-loop-rest
decreases-loop-rest l = length l.rest

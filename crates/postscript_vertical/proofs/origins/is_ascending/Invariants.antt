use Rattle.postscript_vertical.specs.Origins.{AreAscending}
use Rattle.postscript_vertical.proofs.origins.is_ascending.Given as goal

-- the records so far ascend
abbrev pub invariant-loop-k : goal.invariant-loop-k
invariant-loop-k l = AreAscending l.vorg l.k

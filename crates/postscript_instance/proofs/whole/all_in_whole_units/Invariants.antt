use Rattle.std.proofs.Common.{drop, map}
use Rattle.postscript_variable.specs.Told.{said_of}
use Rattle.postscript_instance.proofs.Rounds.{SoFar}
use Rattle.postscript_instance.proofs.whole.all_in_whole_units.Given as goal

-- what was said so far in whole units, and the rest
abbrev pub invariant-loop-saying : goal.invariant-loop-saying
invariant-loop-saying l = SoFar (map said_of l.fn.sayings) (map said_of (drop l.saying-index l.sayings)) (map said_of l.whole.items) l.place

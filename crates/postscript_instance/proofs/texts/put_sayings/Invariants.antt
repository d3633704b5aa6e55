use Rattle.std.proofs.Common.{ℕ, List, drop, map}
use Rattle.postscript_variable.specs.Told.{said_of}
use Rattle.postscript_instance.specs.Private.{IsWritten}
use Rattle.postscript_instance.proofs.texts.put_sayings.Given as goal

-- whatever is to be written of the rest: with it, all is written
abbrev pub invariant-loop-saying : goal.invariant-loop-saying
invariant-loop-saying l =
    (end : List ℕ) → IsWritten l.width (map said_of (drop l.saying-index l.sayings)) l.out.items end → IsWritten l.fn.width
    (map said_of l.fn.sayings) l.fn.out.items end

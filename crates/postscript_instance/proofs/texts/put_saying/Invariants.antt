use Rattle.std.proofs.Common.{ℕ, List, ◌∷◌, length}
use Rattle.postscript_variable.specs.Sayings.{Phrase}
use Rattle.postscript_variable.specs.Told.{said_of}
use Rattle.postscript_instance.specs.Private.{IsWritten}
use Rattle.postscript_instance.specs.Cuts.{said_by}
use Rattle.postscript_instance.proofs.texts.put_saying.Given as goal

-- whatever is to be written of the rest, and of what is said behind it: with it, all is written
abbrev pub invariant-loop-first : goal.invariant-loop-first
invariant-loop-first l =
    (xs : List Phrase) (end : List ℕ) → IsWritten l.width (said_by l.rest ∷ xs) l.out.items end → IsWritten l.fn.width
    (said_of l.fn.saying ∷ xs) l.fn.out.items end

abbrev pub decreases-loop-first : goal.decreases-loop-first
decreases-loop-first l = length l.rest.operands.now

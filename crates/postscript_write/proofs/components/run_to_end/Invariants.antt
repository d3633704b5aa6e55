use Rattle.std.proofs.Common.{◌≡◌, length}
use Rattle.postscript_write.proofs.components.run_to_end.Given as goal

abbrev pub invariant-loop-operation : goal.invariant-loop-operation
invariant-loop-operation l = l.program.end ≡ l.fn.program.end

abbrev pub decreases-loop-operation : goal.decreases-loop-operation
decreases-loop-operation l = length l.program.answers

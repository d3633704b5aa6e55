use Rattle.std.proofs.Common.{ℕ, List, length, ◌-◌, ◌++◌}
use Rattle.postscript_instance.specs.Whole.{AreShortened}
use Rattle.postscript_instance.proofs.matrix.shorten_operands.Given as goal

-- the operands so far, and those of the rest, are all
abbrev pub invariant-loop-place : goal.invariant-loop-place
invariant-loop-place l = (rest : List ℕ) → AreShortened l.operands l.place rest → AreShortened l.operands 0 (l.out.items ++ rest)

abbrev pub decreases-loop-place : goal.decreases-loop-place
decreases-loop-place l = length l.operands - l.place

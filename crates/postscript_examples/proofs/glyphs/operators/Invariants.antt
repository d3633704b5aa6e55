use Rattle.std.proofs.Common.{◌≡◌, ◌++◌, map, length}
use Rattle.postscript_type2.specs.Program.Evaluation.{run_of}
use Rattle.postscript_type2.specs.Program.Routines.{subroutines}
use Rattle.postscript_examples.specs.Passing.{operator_in}
use Rattle.postscript_examples.proofs.glyphs.operators.Given as goal

-- the operators so far and those that are left are all of them
abbrev pub invariant-loop-operators : goal.invariant-loop-operators
invariant-loop-operators l =
    l.operators.items ++ map operator_in l.program.answers ≡ map operator_in (run_of (subroutines l.global l.local) l.code).answers

abbrev pub decreases-loop-operators : goal.decreases-loop-operators
decreases-loop-operators l = length l.program.answers

use Rattle.std.proofs.Common.{◌≡◌, ◌++◌, length, map}
use Rattle.postscript_type2.specs.Program.Runs.{operation, last_width}
use Rattle.postscript_type2.specs.Program.RunAnswers.{operation_of}
use Rattle.postscript_type2.proofs.program.all_answers.Given as goal

-- the operations so far and those that are left are all of them
abbrev pub invariant-loop-operation : goal.invariant-loop-operation
invariant-loop-operation l = record {
  told : map operation_of l.operations.items ++ map operation l.program.answers ≡ map operation l.fn.program.answers;
  end : l.program.end ≡ l.fn.program.end;
  width : last_width l.program.width l.program.answers ≡ last_width l.fn.program.width l.fn.program.answers;
}

abbrev pub decreases-loop-operation : goal.decreases-loop-operation
decreases-loop-operation l = length l.program.answers

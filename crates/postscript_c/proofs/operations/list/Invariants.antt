use Rattle.std.proofs.Common.{◌≡◌, ◌++◌, map}
use Rattle.postscript_c.specs.Operations.{AllLieIn, answered, held}
use Rattle.postscript_c.proofs.operations.list.Given as goal
use Rattle.postscript_type2.specs.Program.Limit.{Spends}

-- what is listed, and what is left, is all that the program answers, and the phrases so far are paid
abbrev pub invariant-loop-operands : goal.invariant-loop-operands
invariant-loop-operands l = record {
  same : map (held l.operands.items) l.rows.items ++ map answered l.program.answers ≡ map answered l.fn.program.answers;
  theirs : AllLieIn l.operands.items l.rows.items;
  end : l.program.end ≡ l.fn.program.end;
  spends : Spends l.fn.limit l.fn.program.trace l.limit l.program.trace;
}

-- each operation takes something of the limit
abbrev pub decreases-loop-operands : goal.decreases-loop-operands
decreases-loop-operands l = l.limit

use Rattle.std.proofs.Common.{◌≡◌}
use Rattle.postscript_type2.specs.Program.Limit.{Spends}
use Rattle.postscript_type2.specs.Program.Runs.{last_width}
use Rattle.postscript_view.proofs.advance.advance_within.Given as goal

-- the phrases that were run are paid, and the end and the last width stay
abbrev pub invariant-loop-program : goal.invariant-loop-program
invariant-loop-program l = record {
  paid : Spends l.fn.limit l.fn.program.trace l.limit l.program.trace;
  end : l.program.end ≡ l.fn.program.end;
  width : last_width l.program.width l.program.answers ≡ last_width l.fn.program.width l.fn.program.answers;
}

-- each operation takes something of the limit
abbrev pub decreases-loop-program : goal.decreases-loop-program
decreases-loop-program l = l.limit

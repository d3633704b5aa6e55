use Rattle.std.proofs.Common.{◌≡◌}
use Rattle.postscript_type2.specs.Program.Limit.{Spends}
use Rattle.postscript_write.proofs.components.run_within.Given as goal

-- the phrases that were run are paid, and the end is the same
abbrev pub invariant-loop-e : goal.invariant-loop-e
invariant-loop-e l = record {
  paid : Spends l.fn.limit l.fn.program.trace l.limit l.program.trace;
  same : l.program.end ≡ l.fn.program.end;
}

-- each operation takes something of the limit
abbrev pub decreases-loop-e : goal.decreases-loop-e
decreases-loop-e l = l.limit

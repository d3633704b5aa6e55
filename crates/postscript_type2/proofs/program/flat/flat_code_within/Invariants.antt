use Rattle.std.proofs.Common.{◌≡◌, ◌++◌, length}
use Rattle.postscript_type2.specs.Program.Flat.{flat_text}
use Rattle.postscript_type2.specs.Program.Limit.{Spends}
use Rattle.postscript_type2.specs.Private.Machines.{IsNested, still_of}
use Rattle.postscript_type2.proofs.program.flat.flat_code_within.Given as goal

-- what is flat so far and the flat text of what is left are the whole, and the phrases so far are paid
abbrev pub invariant-loop-limit : goal.invariant-loop-limit
invariant-loop-limit l = record {
  nested : IsNested l.machine;
  text : l.flat.items ++ flat_text (still_of l.machine).trace ≡ flat_text (still_of l.fn.machine).trace;
  end : (still_of l.machine).end ≡ (still_of l.fn.machine).end;
  spends : Spends l.fn.limit (still_of l.fn.machine).trace l.limit (still_of l.machine).trace;
}

abbrev pub decreases-loop-limit : goal.decreases-loop-limit
decreases-loop-limit l = length (still_of l.machine).trace

use Rattle.std.proofs.Common.{◌≡◌, ◌≤◌, length}
use Rattle.postscript_type2.specs.Program.Inlined.{inlined_text}
use Rattle.postscript_type2.specs.Private.Machines.{IsNested, still_of}
use Rattle.postscript_type2.specs.Private.Written.{written}
use Rattle.postscript_type2.proofs.program.inlined.inlined_code.Given as goal

-- what is written so far, before what is left, is the whole
abbrev pub invariant-loop-inlined : goal.invariant-loop-inlined
invariant-loop-inlined l = record {
  nested : IsNested l.machine;
  room : l.inlined.whole ≤ length l.inlined.code.items;
  text : written l.inlined (still_of l.machine).trace ≡ inlined_text (still_of l.fn.machine).trace;
  end : (still_of l.machine).end ≡ (still_of l.fn.machine).end;
}

abbrev pub decreases-loop-inlined : goal.decreases-loop-inlined
decreases-loop-inlined l = length (still_of l.machine).trace

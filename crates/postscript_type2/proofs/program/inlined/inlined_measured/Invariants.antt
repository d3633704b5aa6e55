use Rattle.std.proofs.Common.{◌≡◌, ◌<◌, ◌^◌, length}
use Rattle.postscript_type2.specs.Program.Inlined.{inlined_len}
use Rattle.postscript_type2.specs.Private.Machines.{IsNested, still_of}
use Rattle.postscript_type2.specs.Private.Written.{counted}
use Rattle.postscript_type2.proofs.program.inlined.inlined_measured.Given as goal

-- what is counted so far, before what is left, is the whole
abbrev pub invariant-loop-said : goal.invariant-loop-said
invariant-loop-said l = record {
  nested : IsNested l.machine;
  fits : l.lengths.whole < 2 ^ 64;
  len : counted l.lengths (still_of l.machine).trace ≡ inlined_len (still_of l.fn.machine).trace;
  end : (still_of l.machine).end ≡ (still_of l.fn.machine).end;
}

abbrev pub decreases-loop-said : goal.decreases-loop-said
decreases-loop-said l = length (still_of l.machine).trace

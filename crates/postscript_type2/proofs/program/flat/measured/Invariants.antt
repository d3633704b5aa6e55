use Rattle.std.proofs.Common.{◌≡◌, ◌+◌, ◌-◌, ◌^◌, ◌<◌, length, min}
use Rattle.postscript_type2.specs.Program.Flat.{flat_text, flat_len}
use Rattle.postscript_type2.specs.Private.Machines.{IsNested, still_of}
use Rattle.postscript_type2.proofs.program.flat.measured.Given as goal

-- what is measured so far and the flat text of what is left are the whole
abbrev pub invariant-loop-said : goal.invariant-loop-said
invariant-loop-said l = record {
  nested : IsNested l.machine;
  fits : l.len < 2 ^ 64;
  len : min (l.len + length (flat_text (still_of l.machine).trace)) (2 ^ 64 - 1) ≡ flat_len (still_of l.fn.machine).trace;
  end : (still_of l.machine).end ≡ (still_of l.fn.machine).end;
}

abbrev pub decreases-loop-said : goal.decreases-loop-said
decreases-loop-said l = length (still_of l.machine).trace

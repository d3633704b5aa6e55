use Rattle.std.proofs.Common.{◌≡◌, ◌++◌, length}
use Rattle.postscript_type2.specs.Program.Flat.{flat_text}
use Rattle.postscript_type2.specs.Private.Machines.{IsNested, still_of}
use Rattle.postscript_type2.proofs.program.flat.flat_code.Given as goal

-- what is flat so far and the flat text of what is left are the whole
abbrev pub invariant-loop-flat : goal.invariant-loop-flat
invariant-loop-flat l = record {
  nested : IsNested l.machine;
  text : l.flat.items ++ flat_text (still_of l.machine).trace ≡ flat_text (still_of l.fn.machine).trace;
  end : (still_of l.machine).end ≡ (still_of l.fn.machine).end;
}

abbrev pub decreases-loop-flat : goal.decreases-loop-flat
decreases-loop-flat l = length (still_of l.machine).trace

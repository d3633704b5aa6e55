use Rattle.std.proofs.Common.{◌≡◌, ◌++◌, map}
use Rattle.postscript_variable.specs.Private.Machines.{IsNested, still_of, work_of}
use Rattle.postscript_variable.specs.Told.{said_of}
use Rattle.postscript_variable.proofs.sayings.all_sayings.Given as goal

-- what was said so far, and what is still said, is all that was to be said
abbrev pub invariant-loop-sayings : goal.invariant-loop-sayings
invariant-loop-sayings l = record {
  nested : IsNested l.machine;
  says : map said_of l.sayings.items ++ (still_of l.machine).says ≡ (still_of l.fn.machine).says;
  end : (still_of l.machine).end ≡ (still_of l.fn.machine).end;
}

abbrev pub decreases-loop-sayings : goal.decreases-loop-sayings
decreases-loop-sayings l = work_of (still_of l.machine) l.machine

use Rattle.postscript_variable.specs.Private.Limited.{Passes}
use Rattle.postscript_variable.specs.Private.Machines.{IsNested, still_of, work_of}
use Rattle.postscript_variable.proofs.machine.Machine.reach_within.Given as goal

-- what is passed answers nothing, and is paid
abbrev pub invariant-loop-self : goal.invariant-loop-self
invariant-loop-self l = record {
  nested : IsNested l.self;
  passes : Passes (still_of l.fn.self) (work_of (still_of l.fn.self) l.fn.self) l.fn.limit l.self l.limit;
}

abbrev pub decreases-loop-self : goal.decreases-loop-self
decreases-loop-self l = work_of (still_of l.self) l.self

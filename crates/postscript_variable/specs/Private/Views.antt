-- The remaining operations of a program, by its fields.
use Rattle.postscript_type2.specs.declared.program.Phase.{Phase}
use Rattle.postscript_type2.specs.declared.program.Phase.TheVariants as phases
use Rattle.postscript_variable.specs.declared.machine.Machine.{Machine}
use Rattle.postscript_variable.specs.Private.Machines.{still_of, still_emptied}
use Rattle.postscript_variable.specs.Programs.{Pending, begun, ended, failed}

-- The operands of the last operation may still be on the stack, so it is cleared first. If the run is paused, the stack belongs to the rest
-- of the run.
abbrev pub pending_of : Phase → Machine → Pending
pending_of phases.Running machine = begun (still_emptied machine)
pending_of phases.Paused machine = begun (still_of machine)
pending_of phases.Ended machine = ended
pending_of phases.Failed machine = failed

-- The result of a whole run.
use Rattle.std.specs.Prelude.{◌≡◌, ℤ, List, map, Vec}
use Rattle.std.specs.Option.{option_map}
use Rattle.std.specs.declared.alloc.Global.{Global}
use Rattle.postscript_base.specs.RefusalOf.{refusal_of}
use Rattle.postscript_type2.specs.declared.operation.Operator.{Operator}
use Rattle.postscript_type2.specs.declared.program.Answers.{Answers}
use Rattle.postscript_type2.specs.Program.Programs.{Pending}
use Rattle.postscript_type2.specs.Program.Runs.{Run, operation, fault_of, width_by, width_of}

abbrev pub operation_of : Operator × Vec ℤ Global → Operator × List ℤ
operation_of x = (x.0, x.1.items)

-- the result has all operations before the end, a fault exactly if the run ends with it, and the width of the run
pub record Tells (told : Answers) (run : Run) : Type 0 where
  pub operations : map operation_of told.operations.items ≡ map operation run.answers
  pub fault : option_map refusal_of told.fault ≡ fault_of run.end
  pub width : told.width ≡ width_of run

-- the same for the rest of a program
pub record TellsPending (told : Answers) (pending : Pending) : Type 0 where
  pub operations : map operation_of told.operations.items ≡ map operation pending.answers
  pub fault : option_map refusal_of told.fault ≡ fault_of pending.end
  pub width : told.width ≡ width_by pending.width pending.answers pending.end

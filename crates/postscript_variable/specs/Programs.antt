-- The remaining operations of a program, as its callers see them.
use Rattle.std.specs.Prelude.{ℕ, Bool, true, false, List, [], map, Vec}
use Rattle.std.specs.declared.alloc.Global.{Global}
use Rattle.postscript_base.specs.declared.error.Error.TheVariants.{AlreadyFailed}
use Rattle.postscript_base.specs.RefusalOf.{refusal_of}
use Rattle.postscript_type2.specs.Program.Routines.{Lists}
use Rattle.postscript_type2.specs.Program.Runs as type2
use Rattle.postscript_type2.specs.Program.Runs.{Answer}
use Rattle.postscript_variable.specs.State.{Font}
use Rattle.postscript_variable.specs.Evaluation.{Run}
use Rattle.postscript_variable.specs.Meaning.{End, UsedUp, Stopped}

-- the scalars of each item variation data
abbrev pub tables_of : List (Vec ℕ Global) → List (List ℕ)
tables_of tables = map (λ table. table.items) tables

-- subroutines, and the scalars for blend
abbrev pub font : Lists → (tables : List (Vec ℕ Global)) → Font
font lists tables = record { lists = lists; tables = tables_of tables }

-- the end as callers see it, in the form of Type 2 charstrings, so that one relation draws both
abbrev pub end_of : End → type2.End
end_of (UsedUp st) = type2.UsedUp
end_of (Stopped e) = type2.Fault e

-- The remaining operations, the cost of each number and operator still to be read, the end after them, and whether the end was returned.
pub record Pending : Type 0 where
  pub answers : List Answer
  pub costs : List ℕ
  pub end : type2.End
  pub is_told : Bool

-- before the first operation of a run
abbrev pub begun : Run → Pending
begun run = record { answers = run.answers; costs = run.costs; end = end_of run.end; is_told = false }

-- after an end without a fault was returned, and after an error was
abbrev pub ended : Pending
ended = record { answers = []; costs = []; end = type2.UsedUp; is_told = true }

abbrev pub failed : Pending
failed = record { answers = []; costs = []; end = type2.Fault (refusal_of AlreadyFailed); is_told = true }

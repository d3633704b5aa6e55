-- The machine of a program within its limit.
use Rattle.std.specs.Prelude.{◌≡◌, ◌⊎◌, ◌<◌, ◌≤◌, ℕ, List, [], Some, None, Result, Ok, Err}
use Rattle.postscript_type2.specs.declared.refused.Refused.{Refused}
use Rattle.postscript_type2.specs.declared.refused.Refused.TheVariants.{Memory}
use Rattle.postscript_variable.specs.declared.machine.Machine.{Machine}
use Rattle.postscript_variable.specs.declared.machine.Reach.{Reach}
use Rattle.postscript_variable.specs.declared.machine.Reach.TheVariants as reaches
use Rattle.postscript_variable.specs.Evaluation.{Run}
use Rattle.postscript_variable.specs.Limit.{Spends}
use Rattle.postscript_variable.specs.Private.Machines.{still_of, still_emptied, work_of, Reaches}

-- The same as `Reaches`, or a pause that leaves the remaining run unchanged. The items that were read are paid for.
abbrev pub ReachesWithin : Run → (limit : ℕ) → Result Reach Refused → Machine → (left : ℕ) → Type 0
ReachesWithin before limit (Ok (reaches.At operator count)) new left =
    Reaches before (Ok (Some (operator, count))) new × Spends limit before.costs left (still_emptied new).costs × (left < limit)
ReachesWithin before limit (Ok reaches.End) new left = Reaches before (Ok None) new × Spends limit before.costs left []
ReachesWithin before limit (Ok reaches.Paused) new left =
    (before.answers ≡ (still_of new).answers) × (before.end ≡ (still_of new).end) × (left ≡ 0) ×
    Spends limit before.costs left (still_of new).costs
ReachesWithin before limit (Err e) new left =
    Reaches before (Err e) new × ((rest : List ℕ) × Spends limit before.costs left rest × ((e ≡ Memory) ⊎ (rest ≡ [])))

-- Items that give no operation are passed, and are paid for.
pub record Passes (before : Run) (work : ℕ) (limit : ℕ) (new : Machine) (left : ℕ) : Type 0 where
  pub answers : (still_of new).answers ≡ before.answers
  pub end : (still_of new).end ≡ before.end
  pub spends : Spends limit before.costs left (still_of new).costs
  pub less : left ≤ limit
  pub no_more : work_of (still_of new) new ≤ work

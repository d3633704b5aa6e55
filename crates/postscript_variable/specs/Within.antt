-- The operations that a program returns within a limit.
use Rattle.std.specs.Prelude.{◌≡◌, ◌⊎◌, ◌<◌, false, ℕ, List, [], Some, None, Result, Ok, Err}
use Rattle.std.specs.Borrow.{Fml, MutBor}
use Rattle.std.specs.Io.BufRead.{Rests}
use mir.Syntax.{named}
use Rattle.postscript_base.specs.declared.error.Error.{Error}
use Rattle.postscript_base.specs.declared.error.Error.TheVariants.{Memory}
use Rattle.postscript_type2.specs.declared.program.within.Within.{Within}
use Rattle.postscript_type2.specs.declared.program.within.Within.TheVariants.{Operation, End, Paused}
use Rattle.postscript_variable.specs.contracts.program.Program.{the_row}
use Rattle.postscript_variable.specs.Lending.{Steps, IsHead}
use Rattle.postscript_variable.specs.Limit.{Spends}
use Rattle.postscript_variable.specs.Programs.{Pending}

-- An operation or the end is returned as `Steps` says. A pause leaves the remaining operations unchanged, and the limit is then 0. The
-- items that were read are paid for, and an operation costs something. On an error other than `Memory`, no items are left.
abbrev pub StepsWithin : Pending → (limit : ℕ) → Result Within Error → Pending → (left : ℕ) → Type 0
StepsWithin old limit (Ok (Operation operator operands)) new left =
    Steps old (Ok (Some (operator, operands))) new × Spends limit old.costs left new.costs × (left < limit)
StepsWithin old limit (Ok End) new left = Steps old (Ok None) new × Spends limit old.costs left []
StepsWithin old limit (Ok Paused) new left =
    (new.answers ≡ old.answers) × (new.end ≡ old.end) × (new.is_told ≡ false) × (left ≡ 0) × Spends limit old.costs left new.costs
StepsWithin old limit (Err e) new left =
    Steps old (Err e) new × ((rest : List ℕ) × Spends limit old.costs left rest × ((e ≡ Memory) ⊎ (rest ≡ [])))

-- The operands are borrowed, and when the borrow ends the program is as `StepsWithin` says.
abbrev pub LendsWithin : MutBor Pending → (limit : ℕ) → Result Within Error → (left : ℕ) → Fml
LendsWithin program limit result left =
    Rests (the_row (record { mir = named 0; lft = [] })) program (λ new. StepsWithin program.now limit result new left)

-- the returned operation is the first remaining one
abbrev pub IsHeadWithin : Pending → Result Within Error → Type 0
IsHeadWithin old (Ok (Operation operator operands)) = IsHead old (Ok (Some (operator, operands)))
IsHeadWithin old (Ok End) = IsHead old (Ok None)
IsHeadWithin old (Ok Paused) = Unit {0}
IsHeadWithin old (Err e) = IsHead old (Err e)

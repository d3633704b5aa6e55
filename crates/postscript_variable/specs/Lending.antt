-- The operations that a caller borrows from a program.
use Rattle.std.specs.Prelude.{◌≡◌, ◌⊎◌, false, ℤ, List, [], ◌∷◌, Option, Some, None, Result, Ok, Err}
use Rattle.std.specs.Borrow.{Fml, MutBor}
use Rattle.std.specs.Io.BufRead.{Rests}
use denote.Ref.{Bor}
use mir.Syntax.{named}
use Rattle.postscript_base.specs.declared.error.Error.{Error}
use Rattle.postscript_base.specs.declared.error.Error.TheVariants.{Memory}
use Rattle.postscript_base.specs.RefusalOf.{refusal_of}
use Rattle.postscript_type2.specs.declared.operation.Operator.{Operator}
use Rattle.postscript_type2.specs.Program.Runs.{Answer, UsedUp, Fault}
use Rattle.postscript_variable.specs.contracts.program.Program.{the_row}
use Rattle.postscript_variable.specs.Meaning.{answer}
use Rattle.postscript_variable.specs.Programs.{Pending, ended, failed}

-- The first remaining operation is returned, and the others remain. If there is none, the result is `None` at an end without a fault, and
-- the error at a fault. Any call may fail with `Memory` instead.
abbrev pub Steps : Pending → Result (Option (Operator × Bor (List ℤ))) Error → Pending → Type 0
Steps old (Ok (Some operation)) new =
    (old.answers ≡ answer operation.0 operation.1.now ∷ new.answers) × (new.end ≡ old.end) × (new.is_told ≡ false)
Steps old (Ok None) new = (old.answers ≡ []) × (old.end ≡ UsedUp) × (new ≡ ended)
Steps old (Err e) new = ((e ≡ Memory) ⊎ ((old.answers ≡ []) × (old.end ≡ Fault (refusal_of e)))) × (new ≡ failed)

-- The operands are borrowed, and when the borrow ends the program is as `Steps` says. `named 0` is the position of its lifetime in the
-- signature.
abbrev pub LendsNext : MutBor Pending → Result (Option (Operator × Bor (List ℤ))) Error → Fml
LendsNext program result = Rests (the_row (record { mir = named 0; lft = [] })) program (λ new. Steps program.now result new)

-- the returned operation is the first remaining one
abbrev pub IsHead : Pending → Result (Option (Operator × Bor (List ℤ))) Error → Type 0
IsHead old (Ok (Some operation)) = (rest : List Answer) × (old.answers ≡ answer operation.0 operation.1.now ∷ rest)
IsHead old (Ok None) = old.answers ≡ []
IsHead old (Err e) = (e ≡ Memory) ⊎ ((old.answers ≡ []) × (old.end ≡ Fault (refusal_of e)))

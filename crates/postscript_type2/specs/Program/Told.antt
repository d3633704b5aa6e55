-- Operations of a program within a limit, as in `step_within`, with the hints of a mask and their phrases.
use Rattle.std.specs.Prelude.{◌≡◌, ℕ, List, [], ◌∷◌, ◌++◌, Result, Ok, Err}
use Rattle.std.specs.Borrow.{Fml, MutBor}
use Rattle.std.specs.Io.BufRead.{Rests}
use mir.Syntax.{named}
use Rattle.postscript_base.specs.declared.error.Error.{Error}
use Rattle.postscript_type2.specs.contracts.program.Program.{the_row}
use Rattle.postscript_type2.specs.declared.program.told.Told.{Told}
use Rattle.postscript_type2.specs.declared.program.told.Told.TheVariants as told
use Rattle.postscript_type2.specs.declared.program.within.Within.{Within}
use Rattle.postscript_type2.specs.declared.program.within.Within.TheVariants as within
use Rattle.postscript_type2.specs.Program.Programs.{Pending}
use Rattle.postscript_type2.specs.Program.Runs.{Answer, Hints, Phrase, by}
use Rattle.postscript_type2.specs.Program.Within.{StepsWithin}

-- these phrases are some that are passed, then this one, and then the rest
abbrev pub ComesTo : List Phrase → Phrase → (rest : List Phrase) → Type 0
ComesTo phrases said rest = (passed : List Phrase) × (phrases ≡ passed ++ said ∷ rest)

-- the result without the hints and the phrase
abbrev less : Told → Within
less (told.Operation operator operands hints phrase) = within.Operation operator operands
less told.End = within.End
less told.Paused = within.Paused

abbrev pub within_of : Result Told Error → Result Within Error
within_of (Ok answer) = Ok (less answer)
within_of (Err e) = Err e

-- the phrase of an operation is one of the remaining phrases, and those after it remain
abbrev pub TellsPhraseOf : Pending → Result Told Error → Pending → Type 0
TellsPhraseOf old (Ok (told.Operation operator operands hints phrase)) new = ComesTo old.trace (by operator phrase.now) new.trace
TellsPhraseOf old answer new = Unit {0}

-- The operands and the phrase are borrowed. When the borrow ends, the program is as `StepsWithin` says.
abbrev pub LendsTold : MutBor Pending → (limit : ℕ) → Result Told Error → (left : ℕ) → Fml
LendsTold program limit result left = Rests (the_row (record { mir = named 0; lft = [] })) program
    (λ new. StepsWithin program.now limit (within_of result) new left × TellsPhraseOf program.now result new)

-- the first of these operations has these hints
abbrev pub HeadHas : List Answer → Hints → Type 0
HeadHas answers hints = (answer : Answer) × (rest : List Answer) × (answers ≡ answer ∷ rest) × (answer.hints ≡ hints)

-- the hints of an operation are in the first remaining operation
abbrev pub TellsHintsOf : Pending → Result Told Error → Type 0
TellsHintsOf old (Ok (told.Operation operator operands hints phrase)) =
    HeadHas old.answers (record { stems = hints.stems.now; mask = hints.mask.now })
TellsHintsOf old answer = Unit {0}

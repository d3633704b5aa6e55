-- A limit that a drawing spends.
use Rattle.std.proofs.Common.{◌≡◌, subst, ℕ, ◌<◌, ℤ, List, [], ◌∷◌, Result, Ok, Err, arith}
use denote.Ref.{Bor}
use Rattle.postscript_base.specs.declared.error.Error.{Error}
use Rattle.postscript_type2.specs.declared.operation.Operator.{Operator}
use Rattle.postscript_type2.specs.declared.program.within.Within.{Within}
use Rattle.postscript_type2.specs.declared.program.within.Within.TheVariants.{Operation, End, Paused}
use Rattle.postscript_type2.specs.Program.Limit.{cost, Spends, nothing, one_more}
use Rattle.postscript_type2.specs.Program.Programs.{Pending}
use Rattle.postscript_type2.specs.Program.Runs.{Hints, Phrase}
use Rattle.postscript_type2.specs.Program.Within.{StepsWithin}

-- what is left is spent on
goes-on : (limit : ℕ) (phrases : List Phrase) (left : ℕ) (rest : List Phrase) (last : ℕ) (end : List Phrase) →
    Spends limit phrases left rest → Spends left rest last end → Spends limit phrases last end
goes-on limit phrases left rest last end first nothing = first
goes-on limit phrases left rest last end first (one_more before said behind spends is_left costs) =
    one_more before said end (goes-on limit phrases left rest before (said ∷ end) first spends) is_left costs

-- a limit above what all phrases cost leaves more than the rest of them costs, so it does not run out
lasts : (limit : ℕ) (phrases : List Phrase) (left : ℕ) (rest : List Phrase) → Spends limit phrases left rest → cost phrases < limit →
    cost rest < left
lasts limit phrases left rest nothing h = h
lasts limit phrases left rest (one_more before said behind spends is_left costs) h =
    let more = lasts limit phrases before (said ∷ rest) spends h in omega (arith, more)

runs-out : {limit left : ℕ} {phrases rest : List Phrase} → Spends limit phrases left rest → left ≡ 0 → cost phrases < limit → ⊥
runs-out {limit} {left} {phrases} {rest} spends none h = let more = lasts limit phrases left rest spends h in omega (arith, more, none)

-- the operation that was told is the first answer
pub head-is : (old new : Pending) (limit left : ℕ) {answer : Result Within Error} {op : Operator} {operands : Bor (List ℤ)} →
    answer ≡ Ok (Operation op operands) → StepsWithin old limit answer new left →
    (hints : Hints) × (old.answers ≡ record { operator = op; operands = operands.now; hints = hints; width = new.width } ∷ new.answers)
head-is old new limit left {answer} {op} {operands} is steps =
    let step = subst (λ (r : Result Within Error). StepsWithin old limit r new left) is steps in step.0.0

-- what was paid once a step is answered
pub on-operation : {first : ℕ} {phrases : List Phrase} (old new : Pending) {limit left : ℕ} {answer : Result Within Error} {op : Operator}
    {operands : Bor (List ℤ)} →
    answer ≡ Ok (Operation op operands) → StepsWithin old limit answer new left → Spends first phrases limit old.trace → Spends first
    phrases left new.trace
on-operation {first} {phrases} old new {limit} {left} {answer} {op} {operands} is steps paid =
    let step = subst (λ (r : Result Within Error). StepsWithin old limit r new left) is steps in
    goes-on first phrases limit old.trace left new.trace paid step.1

pub on-end : {first : ℕ} {phrases : List Phrase} (old new : Pending) {limit left : ℕ} {answer : Result Within Error} →
    answer ≡ Ok End → StepsWithin old limit answer new left → Spends first phrases limit old.trace → Spends first phrases left []
on-end {first} {phrases} old new {limit} {left} {answer} is steps paid =
    let step = subst (λ (r : Result Within Error). StepsWithin old limit r new left) is steps in
    goes-on first phrases limit old.trace left [] paid step.1

pub on-pause : {first : ℕ} {phrases : List Phrase} (old new : Pending) {limit left : ℕ} {answer : Result Within Error} →
    answer ≡ Ok Paused → StepsWithin old limit answer new left → Spends first phrases limit old.trace → (rest : List Phrase) × Spends
    first phrases left rest
on-pause {first} {phrases} old new {limit} {left} {answer} is steps paid =
    let step = subst (λ (r : Result Within Error). StepsWithin old limit r new left) is steps in
    (new.trace, goes-on first phrases limit old.trace left new.trace paid step.5)

-- no pause comes where the limit is more than the program costs
pub no-pause : {first : ℕ} {phrases : List Phrase} (old new : Pending) (left : ℕ) {limit : ℕ} {answer : Result Within Error} →
    answer ≡ Ok Paused → StepsWithin old limit answer new left → Spends first phrases limit old.trace → cost phrases < first → ⊥
no-pause {first} {phrases} old new left {limit} {answer} is steps paid less =
    let step = subst (λ (r : Result Within Error). StepsWithin old limit r new left) is steps in
    runs-out (on-pause old new is steps paid).1 step.4 less

pub on-refusal : {first : ℕ} {phrases : List Phrase} (old new : Pending) {limit left : ℕ} {answer : Result Within Error} {e : Error} →
    answer ≡ Err e → StepsWithin old limit answer new left → Spends first phrases limit old.trace → (rest : List Phrase) × Spends first
    phrases left rest
on-refusal {first} {phrases} old new {limit} {left} {answer} {e} is steps paid =
    let step = subst (λ (r : Result Within Error). StepsWithin old limit r new left) is steps in
    (step.1.0, goes-on first phrases limit old.trace left step.1.0 paid step.1.1)

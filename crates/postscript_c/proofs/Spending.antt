-- A limit that a program spends while its operations are told.
use Rattle.std.proofs.Common.{◌≡◌, ◌⊎◌, inl, inr, refl, ap, sym, ◌∙◌, subst, true, false, ℕ, ℤ, List, [], ◌∷◌, Option, Some, None, Result, Ok, Err, arith}
use denote.Ref.{Bor}
use Rattle.postscript_base.specs.RefusalOf.{refusal_of}
use Rattle.postscript_base.specs.declared.error.Error.{Error}
use Rattle.postscript_base.specs.declared.error.Error.TheVariants.{Memory}
use Rattle.postscript_type2.specs.declared.operation.Operator.{Operator}
use Rattle.postscript_type2.specs.declared.program.told.Hints as told
use Rattle.postscript_type2.specs.declared.program.told.Told.{Told}
use Rattle.postscript_type2.specs.declared.program.told.Told.TheVariants as tells
use Rattle.postscript_type2.specs.declared.program.within.Within.{Within}
use Rattle.postscript_type2.specs.declared.program.within.Within.TheVariants.{Operation, End, Paused}
use Rattle.postscript_type2.specs.Program.Limit.{Spends, nothing, one_more}
use Rattle.postscript_type2.specs.Program.Programs.{Pending, IsLastWidth}
use Rattle.postscript_type2.specs.Program.Runs.{Phrase, End as TheEnd, UsedUp, Returned, Finished, Fault, fault_of}
use Rattle.postscript_type2.specs.Program.Told.{within_of, TellsHintsOf}
use Rattle.postscript_type2.specs.Program.Within.{StepsWithin, Fits}

-- what is left is spent on
goes-on : (limit : ℕ) (phrases : List Phrase) (left : ℕ) (rest : List Phrase) (last : ℕ) (end : List Phrase) →
    Spends limit phrases left rest → Spends left rest last end → Spends limit phrases last end
goes-on limit phrases left rest last end first nothing = first
goes-on limit phrases left rest last end first (one_more before said behind spends is_left costs) =
    one_more before said end (goes-on limit phrases left rest before (said ∷ end) first spends) is_left costs

-- an end that is told is without fault
faultless : (end : TheEnd) (width new : Option ℤ) → IsLastWidth end width new → fault_of end ≡ None
faultless UsedUp width new h = refl
faultless (Finished taken last) width new h = refl
faultless (Returned st) width new h = absurd h
faultless (Fault e) width new h = absurd h

-- the operation that was told is the first answer, with the hints that were told
pub head-is : (old new : Pending) (limit left : ℕ) {answer : Result Told Error} {op : Operator} {operands : Bor (List ℤ)}
    {hints : told.Hints} {phrase : Bor (List ℕ)} →
    answer ≡ Ok (tells.Operation op operands hints phrase) → StepsWithin old limit (within_of answer) new left → TellsHintsOf old answer →
    old.answers ≡ record {
      operator = op;
      operands = operands.now;
      hints = record { stems = hints.stems.now; mask = hints.mask.now };
      width = new.width;
    } ∷ new.answers
head-is old new limit left {answer} {op} {operands} {hints} is steps hinted =
    let step = subst (λ (r : Result Told Error). StepsWithin old limit (within_of r) new left) is steps in
    let has = subst (TellsHintsOf old) is hinted in
    let same = sym step.0.0.1 ∙ has.2 in
    let hint : step.0.0.0 ≡ has.0.hints = cc in
    step.0.0.1 ∙ ap (λ h. record { operator = op; operands = operands.now; hints = h; width = new.width } ∷ new.answers) (hint ∙ has.3)

-- what a program has come to, by how its last step was answered
pub on-operation : {first : ℕ} {phrases : List Phrase} (old new : Pending) {limit left : ℕ} {answer : Result Within Error} {op : Operator}
    {operands : Bor (List ℤ)} →
    answer ≡ Ok (Operation op operands) → StepsWithin old limit answer new left → Spends first phrases limit old.trace → Spends first
    phrases left new.trace
on-operation {first} {phrases} old new {limit} {left} {answer} {op} {operands} is steps paid =
    let step = subst (λ (r : Result Within Error). StepsWithin old limit r new left) is steps in
    goes-on first phrases limit old.trace left new.trace paid step.1

pub on-end : {first : ℕ} {phrases : List Phrase} (old new : Pending) {limit left : ℕ} {answer : Result Within Error} →
    answer ≡ Ok End → StepsWithin old limit answer new left → Spends first phrases limit
    old.trace → (old.answers ≡ []) × (fault_of old.end ≡ None) × Fits phrases first true left
on-end {first} {phrases} old new {limit} {left} {answer} is steps paid =
    let step = subst (λ (r : Result Within Error). StepsWithin old limit r new left) is steps in
    (step.0.0, faultless old.end old.width new.width step.0.1, ([], goes-on first phrases limit old.trace left [] paid step.1, omega arith))

pub on-pause : {first : ℕ} {phrases : List Phrase} (old new : Pending) {limit left : ℕ} {answer : Result Within Error} →
    answer ≡ Ok Paused → StepsWithin old limit answer new left → Spends first phrases limit old.trace → Fits phrases first false left
on-pause {first} {phrases} old new {limit} {left} {answer} is steps paid =
    let step = subst (λ (r : Result Within Error). StepsWithin old limit r new left) is steps in
    (step.4, (new.trace, goes-on first phrases limit old.trace left new.trace paid step.5))

pub on-refusal : {first : ℕ} {phrases : List Phrase} (old new : Pending) {limit left : ℕ} {answer : Result Within Error} {e : Error} →
    answer ≡ Err e → StepsWithin old limit answer new left → Spends first phrases limit old.trace →
    ((e ≡ Memory) ⊎ (fault_of old.end ≡ Some (refusal_of e))) × ((e ≡ Memory) ⊎ Fits phrases first true left)
on-refusal {first} {phrases} old new {limit} {left} {answer} {e} is steps paid =
    let step = subst (λ (r : Result Within Error). StepsWithin old limit r new left) is steps in (
      elim step.0.0 [ inl memory ↦ inl memory | inr ends ↦ inr (ap fault_of ends.1) ],
      elim step.1.2 [
        | inl memory ↦ inl memory
        | inr last ↦ inr
            (step.1.0, goes-on first phrases limit old.trace left step.1.0 paid step.1.1, last)
      ],
    )

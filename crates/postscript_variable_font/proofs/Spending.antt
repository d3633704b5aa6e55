-- A limit that a drawing spends.
use Rattle.std.proofs.Common.{◌≡◌, subst, ℕ, ◌<◌, ℤ, List, [], ◌∷◌, Result, Ok, Err}
use denote.Ref.{Bor}
use Rattle.postscript_base.specs.declared.error.Error.{Error}
use Rattle.postscript_type2.specs.declared.operation.Operator.{Operator}
use Rattle.postscript_type2.specs.declared.program.within.Within.{Within}
use Rattle.postscript_type2.specs.declared.program.within.Within.TheVariants.{Operation, End, Paused}
use Rattle.postscript_variable.specs.Limit.{cost, Spends, nothing, one_more}
use Rattle.postscript_variable.specs.Programs.{Pending}
use Rattle.postscript_variable.specs.Within.{StepsWithin}
use Rattle.postscript_variable.proofs.Limit.{runs-out}

-- what is left is spent on
goes-on : (limit : ℕ) (costs : List ℕ) (left : ℕ) (rest : List ℕ) (last : ℕ) (end : List ℕ) → Spends limit costs left rest →
    Spends left rest last end → Spends limit costs last end
goes-on limit costs left rest last end first nothing = first
goes-on limit costs left rest last end first (one_more before price behind spends is_left positive) =
    one_more before price end (goes-on limit costs left rest before (price ∷ end) first spends) is_left positive

-- what was paid once a step is answered
pub on-operation : {first : ℕ} {costs : List ℕ} (old new : Pending) {limit left : ℕ} {answer : Result Within Error} {op : Operator}
    {operands : Bor (List ℤ)} →
    answer ≡ Ok (Operation op operands) → StepsWithin old limit answer new left → Spends first costs limit old.costs → Spends first costs
    left new.costs
on-operation {first} {costs} old new {limit} {left} {answer} {op} {operands} is steps paid =
    let step = subst (λ (r : Result Within Error). StepsWithin old limit r new left) is steps in
    goes-on first costs limit old.costs left new.costs paid step.1

pub on-end : {first : ℕ} {costs : List ℕ} (old new : Pending) {limit left : ℕ} {answer : Result Within Error} →
    answer ≡ Ok End → StepsWithin old limit answer new left → Spends first costs limit old.costs → Spends first costs left []
on-end {first} {costs} old new {limit} {left} {answer} is steps paid =
    let step = subst (λ (r : Result Within Error). StepsWithin old limit r new left) is steps in
    goes-on first costs limit old.costs left [] paid step.1

pub on-pause : {first : ℕ} {costs : List ℕ} (old new : Pending) {limit left : ℕ} {answer : Result Within Error} →
    answer ≡ Ok Paused → StepsWithin old limit answer new left → Spends first costs limit old.costs → (rest : List ℕ) × Spends first costs
    left rest
on-pause {first} {costs} old new {limit} {left} {answer} is steps paid =
    let step = subst (λ (r : Result Within Error). StepsWithin old limit r new left) is steps in
    (new.costs, goes-on first costs limit old.costs left new.costs paid step.4)

-- no pause comes where the limit is more than the program costs
pub no-pause : {first : ℕ} {costs : List ℕ} (old new : Pending) (left : ℕ) {limit : ℕ} {answer : Result Within Error} →
    answer ≡ Ok Paused → StepsWithin old limit answer new left → Spends first costs limit old.costs → cost costs < first → ⊥
no-pause {first} {costs} old new left {limit} {answer} is steps paid less =
    let step = subst (λ (r : Result Within Error). StepsWithin old limit r new left) is steps in
    let all = on-pause old new is steps paid in runs-out first costs left all.0 all.1 step.3 less

pub on-refusal : {first : ℕ} {costs : List ℕ} (old new : Pending) {limit left : ℕ} {answer : Result Within Error} {e : Error} →
    answer ≡ Err e → StepsWithin old limit answer new left → Spends first costs limit old.costs → (rest : List ℕ) × Spends first costs
    left rest
on-refusal {first} {costs} old new {limit} {left} {answer} {e} is steps paid =
    let step = subst (λ (r : Result Within Error). StepsWithin old limit r new left) is steps in
    (step.1.0, goes-on first costs limit old.costs left step.1.0 paid step.1.1)

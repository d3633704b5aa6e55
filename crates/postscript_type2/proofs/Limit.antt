-- A limit that is spent on phrases.
use Rattle.std.proofs.Common.{◌≡◌, ◌≢◌, ◌⊎◌, refl, ap, subst, sym, ◌∙◌, ℕ, ◌+◌, ◌-◌, ◌<◌, ◌≤◌, ℤ, Bool, true, false, List, [], ◌∷◌, ◌++◌, length, Option, Result, Ok, Err, IfOk, MatchResult, inl, inr, append_assoc, length-append, arith}
use Rattle.std.proofs.lemmas.Grind.{common_steps}
use denote.Ref.{Bor}
use Rattle.postscript_base.specs.declared.error.Error.{Error}
use Rattle.postscript_base.specs.declared.error.Error.TheVariants.{AlreadyFailed, Memory}
use Rattle.postscript_type2.specs.declared.operation.Operator.{Operator}
use Rattle.postscript_type2.specs.declared.program.Phase.{Phase}
use Rattle.postscript_type2.specs.declared.program.Phase.TheVariants as phases
use Rattle.postscript_type2.specs.declared.program.machine.Machine.{Machine}
use Rattle.postscript_type2.specs.declared.program.within.Within.{Within}
use Rattle.postscript_type2.specs.declared.program.within.Within.TheVariants.{Operation, End, Paused}
use Rattle.postscript_type2.specs.Program.Evaluation.{with_phrase}
use Rattle.postscript_type2.specs.Operation.Kinds.{Kind, kind}
use Rattle.postscript_type2.specs.Program.Flat.{flat_of, flat_bytes, flat_text}
use Rattle.postscript_type2.specs.Program.Limit.{cost_of, cost, IsLast, Spends, nothing, one_more, LimitLasts, LimitIsCost, LimitBoundsPhrases, FlatIsBounded}
use Rattle.postscript_type2.specs.Program.Programs.{Pending, ended_over, failed}
use Rattle.postscript_type2.specs.Program.Runs.{Phrase, Run}
use Rattle.postscript_type2.specs.Program.Told.{ComesTo}
use Rattle.postscript_type2.specs.Program.Within.{StepsWithin, Fits, FitsBoundsPhrases, FitsBoundsCost}
use Rattle.postscript_type2.specs.Private.Machines.{taken_of}
use Rattle.postscript_type2.specs.Private.Views.{pending_of}
use Rattle.postscript_type2.specs.Private.Working.{settled_width}

some : (n : ℕ) → n ≢ 0 → 0 < n
some n h = omega (arith, h)

-- a phrase at the front of what is still run is paid
pub paid : {limit left after : ℕ} {phrases : List Phrase} {before rest : Run} {said : Phrase} → Spends limit phrases left before.trace →
    left ≢ 0 →
    before ≡ with_phrase said rest → 0 < cost_of said → after ≡ left - cost_of said → Spends limit phrases after rest.trace
paid {limit} {left} {after} {phrases} {before} {rest} {said} spends h is costs pays =
    let there : Spends limit phrases left (said ∷ rest.trace) = subst (λ (run : Run). Spends limit phrases left run.trace) is spends in
    subst (λ n. Spends limit phrases n rest.trace) (sym pays) (one_more left said rest.trace there (some left h) costs)

-- it leaves less of the limit
pub falls : {left after costs : ℕ} → left ≢ 0 → 0 < costs → after ≡ left - costs → after < left
falls {left} {after} {costs} h is pays = omega (arith, h, is, pays)

pub falls-so : {limit left after costs : ℕ} → left ≤ limit → left ≢ 0 → 0 < costs → after ≡ left - costs → after < limit
falls-so {limit} {left} {after} {costs} less h is pays = omega (arith, less, h, is, pays)

-- a limit above what all phrases cost leaves more than the rest of them costs, and what is left with their cost is what was there
pub lasts : LimitLasts
lasts limit phrases left rest nothing h = (h, refl)
lasts limit phrases left rest (one_more before said behind spends is_left costs) h =
    let all = lasts limit phrases before (said ∷ rest) spends h in (omega (arith, all.0, all.1), omega (arith, all.0, all.1))

-- so it does not run out
pub runs-out : (limit : ℕ) (phrases : List Phrase) (left : ℕ) (rest : List Phrase) → Spends limit phrases left rest → left ≡ 0 →
    cost phrases < limit → ⊥
runs-out limit phrases left rest spends none h = let more = (lasts limit phrases left rest spends h).0 in omega (arith, more, none)

-- a program that told its end, and one that was refused
over : (taken : List ℤ) (width : Option ℤ) (limit : ℕ) → StepsWithin (ended_over taken width) limit (Ok End) (ended_over taken width) limit
over taken width limit = ((refl, refl, refl), nothing)

refused : (width : Option ℤ) (limit : ℕ) → StepsWithin (failed width) limit (Err AlreadyFailed) (failed width) limit
refused width limit = ((inr (refl, refl), refl), ([], nothing, inr (omega arith)))

pub stays-over : {phase : Phase} (machine : Machine) {pending : Pending} (limit : ℕ) → phase ≡ phases.Ended →
    pending_of phase machine ≡ pending →
    StepsWithin pending limit (Ok End) (pending_of phase machine) limit
stays-over {phase} machine {pending} limit is same =
    subst (λ p. StepsWithin p limit (Ok End) (pending_of phase machine) limit) same
    (subst (λ (ph : Phase). StepsWithin (pending_of ph machine) limit (Ok End) (pending_of ph machine) limit) (sym is)
    (over (taken_of machine) (settled_width machine.state.width) limit))

pub stays-refused : {phase : Phase} (machine : Machine) {pending : Pending} (limit : ℕ) → phase ≡ phases.Failed →
    pending_of phase machine ≡ pending →
    StepsWithin pending limit (Err AlreadyFailed) (pending_of phase machine) limit
stays-refused {phase} machine {pending} limit is same =
    subst (λ p. StepsWithin p limit (Err AlreadyFailed) (pending_of phase machine) limit) same
    (subst (λ (ph : Phase). StepsWithin (pending_of ph machine) limit (Err AlreadyFailed) (pending_of ph machine) limit) (sym is)
    (refused (settled_width machine.state.width) limit))

cost-append : (front more : List Phrase) → cost (front ++ more) ≡ cost front + cost more
cost-append [] more = omega arith
cost-append (said ∷ front) more = let rest = cost-append front more in omega (arith, rest)

-- what was spent is the cost of phrases at the front
pub spent : LimitIsCost
spent limit phrases left rest nothing = ([], refl, omega arith, inl refl)
spent limit phrases left rest (one_more before said behind spends is_left costs) =
    let all = spent limit phrases before (said ∷ rest) spends in
    let ran = all.0 in
    let costs = cost-append ran (said ∷ []) in (
      ran ++ said ∷ [],
      all.1 ∙ sym (append_assoc ran (said ∷ []) rest),
      omega (arith, costs, all.2),
      inr (ran, said, refl, omega (arith, all.2, is_left)),
    )

-- the phrase at the front of what is still run is come to
pub comes : {limit left : ℕ} {phrases : List Phrase} {before rest : Run} {said : Phrase} → Spends limit phrases left before.trace →
    before ≡ with_phrase said rest →
    ComesTo phrases said rest.trace
comes {limit} {left} {phrases} {before} {rest} {said} spends is =
    let all = spent limit phrases left before.trace spends in (all.0, all.1 ∙ ap (λ (run : Run). all.0 ++ run.trace) is)

-- what is left is spent on
pub goes-on : (limit : ℕ) (phrases : List Phrase) (left : ℕ) (rest : List Phrase) (last : ℕ) (end : List Phrase) →
    Spends limit phrases left rest → Spends left rest last end → Spends limit phrases last end
goes-on limit phrases left rest last end first nothing = first
goes-on limit phrases left rest last end first (one_more before said behind spends is_left costs) =
    one_more before said end (goes-on limit phrases left rest before (said ∷ end) first spends) is_left costs

-- at most as many phrases are run as units of the limit are spent
pub bounds : LimitBoundsPhrases
bounds limit phrases left rest nothing = omega arith
bounds limit phrases left rest (one_more before said behind spends is_left costs) =
    let all = bounds limit phrases before (said ∷ rest) spends in omega (arith, all)

-- what a run has come to, by how its last step was answered
pub on-operation : {first : ℕ} {phrases : List Phrase} (old new : Pending) {limit left : ℕ} {answer : Result Within Error} {op : Operator}
    {operands : Bor (List ℤ)} →
    answer ≡ Ok (Operation op operands) → StepsWithin old limit answer new left → Spends first phrases limit old.trace → Spends first
    phrases left new.trace
on-operation {first} {phrases} old new {limit} {left} {answer} {op} {operands} is steps paid-so-far =
    let step = subst (λ (r : Result Within Error). StepsWithin old limit r new left) is steps in
    goes-on first phrases limit old.trace left new.trace paid-so-far step.1

pub on-operation-less : (old new : Pending) {limit left : ℕ} {answer : Result Within Error} {op : Operator} {operands : Bor (List ℤ)} →
    answer ≡ Ok (Operation op operands) → StepsWithin old limit answer new left → left < limit
on-operation-less old new {limit} {left} {answer} {op} {operands} is steps =
    (subst (λ (r : Result Within Error). StepsWithin old limit r new left) is steps).2

pub on-end : {first : ℕ} {phrases : List Phrase} (old new : Pending) {limit left : ℕ} {answer : Result Within Error} →
    answer ≡ Ok End → StepsWithin old limit answer new left → Spends first phrases limit old.trace → Fits phrases first true left
on-end {first} {phrases} old new {limit} {left} {answer} is steps paid-so-far =
    let step = subst (λ (r : Result Within Error). StepsWithin old limit r new left) is steps in
    ([], goes-on first phrases limit old.trace left [] paid-so-far step.1, omega arith)

pub on-pause : {first : ℕ} {phrases : List Phrase} (old new : Pending) {limit left : ℕ} {answer : Result Within Error} →
    answer ≡ Ok Paused → StepsWithin old limit answer new left → Spends first phrases limit old.trace → Fits phrases first false left
on-pause {first} {phrases} old new {limit} {left} {answer} is steps paid-so-far =
    let step = subst (λ (r : Result Within Error). StepsWithin old limit r new left) is steps in
    (step.4, (new.trace, goes-on first phrases limit old.trace left new.trace paid-so-far step.5))

pub on-refusal : {first : ℕ} {phrases : List Phrase} (old new : Pending) (left : ℕ) {limit : ℕ} {answer : Result Within Error} {e : Error}
    (told : Result Bool Error) →
    answer ≡ Err e → StepsWithin old limit answer new left → Spends first phrases limit old.trace →
    MatchResult told (λ fits. (fits ≡ true) × (e ≢ Memory)) (λ want. want ≡ Memory) → IfOk told (λ fits. Fits phrases first fits left)
on-refusal {first} {phrases} old new left {limit} {answer} {e} (Err want) is steps paid-so-far ends = tt
on-refusal {first} {phrases} old new left {limit} {answer} {e} (Ok fits) is steps paid-so-far ends =
    let step = subst (λ (r : Result Within Error). StepsWithin old limit r new left) is steps in
    let is_last : IsLast step.1.0 = elim step.1.2 [ inl memory ↦ absurd (ends.1 memory) | inr last ↦ last ] in
    subst (λ (b : Bool). Fits phrases first b left) (sym ends.0)
    (step.1.0, goes-on first phrases limit old.trace left step.1.0 paid-so-far step.1.1, is_last)

pub no-pause : {first : ℕ} {phrases : List Phrase} {left : ℕ} → Fits phrases first false left → cost phrases < first → ⊥
no-pause {first} {phrases} {left} fits less = runs-out first phrases left fits.1.0 fits.1.1 fits.0 less

-- a run that fits
pub fits-phrases : FitsBoundsPhrases
fits-phrases phrases limit left fits = let all = bounds limit phrases left fits.0 fits.1 in omega (arith, all, fits.2)

pub fits-cost : FitsBoundsCost
fits-cost phrases limit left fits = by-last (spent limit phrases left fits.0 fits.1)
  where
    by-last : (ran : List Phrase) × (phrases ≡ ran ++ fits.0) × (left ≡ limit - cost ran) ×
        ((ran ≡ []) ⊎ ((before : List Phrase) × (last : Phrase) × (ran ≡ before ++ last ∷ []) × (cost before < limit))) →
        (front last : List Phrase) × (phrases ≡ front ++ last) × (cost front ≤ limit) × (length last ≤ 2)
    by-last (ran, whole, pays, inl none) = ([], fits.0, whole ∙ ap (λ front. front ++ fits.0) none, omega arith, omega (arith, fits.2))
    by-last (ran, whole, pays, inr (before, last, is, less)) = (
      before,
      last ∷ fits.0,
      whole ∙ ap (λ front. front ++ fits.0) is ∙ append_assoc before (last ∷ []) fits.0,
      omega (arith, less),
      omega (arith, fits.2),
    )

-- the flat text of phrases

flat-of-bounded : (k : Kind) (op : Operator) (bytes : List ℕ) → length (flat_of k op bytes).bytes ≤ length bytes + 3
flat-of-bounded k op bytes = grind (arith, common_steps)

pub flat-bounded : FlatIsBounded
flat-bounded [] = omega arith
flat-bounded (said ∷ more) =
    let first = flat-of-bounded (kind said.operator) said.operator said.bytes in
    let rest = flat-bounded more in
    let both = length-append (flat_bytes said) (flat_text more) in omega (arith, first, rest, both)

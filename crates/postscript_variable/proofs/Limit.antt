-- A limit that is spent on numbers and operators.
use Rattle.std.proofs.Common.{◌≡◌, ◌≢◌, refl, subst, sym, ◌∙◌, ℕ, ◌+◌, ◌-◌, ◌<◌, List, [], ◌∷◌, ◌++◌, Ok, Err, inl, inr, append_assoc, arith}
use Rattle.postscript_base.specs.declared.error.Error.TheVariants.{AlreadyFailed}
use Rattle.postscript_type2.specs.declared.program.within.Within.TheVariants.{End}
use Rattle.postscript_variable.specs.declared.machine.Machine.{Machine}
use Rattle.postscript_type2.specs.declared.program.Phase.{Phase}
use Rattle.postscript_type2.specs.declared.program.Phase.TheVariants as phases
use Rattle.postscript_variable.specs.Evaluation.{Run, with_step}
use Rattle.postscript_variable.specs.Limit.{cost, Spends, nothing, one_more, LimitIsCost, LimitLasts, LimitBoundsSteps}
use Rattle.postscript_variable.specs.Private.Views.{pending_of}
use Rattle.postscript_variable.specs.Programs.{Pending, ended, failed}
use Rattle.postscript_variable.specs.Within.{StepsWithin}

some : (n : ℕ) → n ≢ 0 → 0 < n
some n h = omega (arith, h)

-- what stands at the front of what is still read is paid
pub paid : {limit left after price : ℕ} {costs : List ℕ} {before rest : Run} → Spends limit costs left before.costs → left ≢ 0 →
    before ≡ with_step price rest → 0 < price → after ≡ left - price → Spends limit costs after rest.costs
paid {limit} {left} {after} {price} {costs} {before} {rest} spends h is positive pays =
    let there : Spends limit costs left (price ∷ rest.costs) = subst (λ (run : Run). Spends limit costs left run.costs) is spends in
    subst (λ n. Spends limit costs n rest.costs) (sym pays) (one_more left price rest.costs there (some left h) positive)

-- one spending after another
pub spends-on : {limit : ℕ} {costs : List ℕ} {between : ℕ} {half : List ℕ} {left : ℕ} {rest : List ℕ} → Spends limit costs between half →
    Spends between half left rest →
    Spends limit costs left rest
spends-on first nothing = first
spends-on first (one_more before price behind spends is_left positive) =
    one_more before price behind (spends-on first spends) is_left positive

-- a limit above all costs leaves more than the rest of them, and what is left with them is what was there
pub lasts : LimitLasts
lasts limit costs left rest nothing h = (h, refl)
lasts limit costs left rest (one_more before price behind spends is_left positive) h =
    let all = lasts limit costs before (price ∷ rest) spends h in (omega (arith, all.0, all.1), omega (arith, all.0, all.1))

-- so it does not run out
pub runs-out : (limit : ℕ) (costs : List ℕ) (left : ℕ) (rest : List ℕ) → Spends limit costs left rest → left ≡ 0 → cost costs < limit → ⊥
runs-out limit costs left rest spends none h = let more = (lasts limit costs left rest spends h).0 in omega (arith, more, none)

cost-append : (front more : List ℕ) → cost (front ++ more) ≡ cost front + cost more
cost-append [] more = omega arith
cost-append (price ∷ front) more = let rest = cost-append front more in omega (arith, rest)

-- what was spent is the cost of what stands at the front
pub spent : LimitIsCost
spent limit costs left rest nothing = ([], refl, omega arith, inl refl)
spent limit costs left rest (one_more before price behind spends is_left positive) =
    let all = spent limit costs before (price ∷ rest) spends in
    let read = all.0 in
    let both = cost-append read (price ∷ []) in (
      read ++ price ∷ [],
      all.1 ∙ sym (append_assoc read (price ∷ []) rest),
      omega (arith, both, all.2),
      inr (read, price, refl, omega (arith, all.2, is_left)),
    )

-- at most as many are read as units of the limit are spent
pub bounds : LimitBoundsSteps
bounds limit costs left rest nothing = omega arith
bounds limit costs left rest (one_more before price behind spends is_left positive) =
    let all = bounds limit costs before (price ∷ rest) spends in omega (arith, all)

-- a program that told its end, and one that was refused
over : (limit : ℕ) → StepsWithin ended limit (Ok End) ended limit
over limit = ((refl, refl, refl), nothing)

refused : (limit : ℕ) → StepsWithin failed limit (Err AlreadyFailed) failed limit
refused limit = ((inr (refl, refl), refl), ([], nothing, inr refl))

pub stays-over : {phase : Phase} (machine : Machine) {pending : Pending} (limit : ℕ) → phase ≡ phases.Ended →
    pending_of phase machine ≡ pending →
    StepsWithin pending limit (Ok End) (pending_of phase machine) limit
stays-over {phase} machine {pending} limit is same =
    subst (λ p. StepsWithin p limit (Ok End) (pending_of phase machine) limit) same
    (subst (λ (ph : Phase). StepsWithin (pending_of ph machine) limit (Ok End) (pending_of ph machine) limit) (sym is) (over limit))

pub stays-refused : {phase : Phase} (machine : Machine) {pending : Pending} (limit : ℕ) → phase ≡ phases.Failed →
    pending_of phase machine ≡ pending →
    StepsWithin pending limit (Err AlreadyFailed) (pending_of phase machine) limit
stays-refused {phase} machine {pending} limit is same =
    subst (λ p. StepsWithin p limit (Err AlreadyFailed) (pending_of phase machine) limit) same
    (subst (λ (ph : Phase). StepsWithin (pending_of ph machine) limit (Err AlreadyFailed) (pending_of ph machine) limit) (sym is)
    (refused limit))

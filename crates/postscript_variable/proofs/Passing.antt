-- What a machine passes within its limit, one thing after another.
use Rattle.std.proofs.Common.{◌≡◌, ◌≢◌, refl, ap, sym, subst, ◌∙◌, ◌⊎◌, inl, inr, ℕ, ◌-◌, ◌<◌, List, [], arith}
use Rattle.postscript_variable.specs.declared.machine.Machine.{Machine}
use Rattle.postscript_type2.specs.declared.refused.Refused.{Refused}
use Rattle.postscript_type2.specs.declared.refused.Refused.TheVariants.{Memory}
use Rattle.postscript_variable.specs.State.{State}
use Rattle.postscript_variable.specs.Evaluation.{Run, at_end, with_step}
use Rattle.postscript_variable.specs.Limit.{Spends, nothing}
use Rattle.postscript_variable.specs.Meaning.{UsedUp, Stopped}
use Rattle.postscript_variable.specs.Private.Limited.{Passes}
use Rattle.postscript_variable.specs.Private.Machines.{still_of, work_of}
use Rattle.postscript_type2.specs.Refused.{reason}
use Rattle.postscript_variable.proofs.Limit.{paid, spends-on}

pub at-first : (machine : Machine) (limit : ℕ) → Passes (still_of machine) (work_of (still_of machine) machine) limit machine limit
at-first machine limit = record { answers = refl; end = refl; spends = nothing; less = omega arith; no_more = omega arith }

-- numbers behind what was passed
pub passes-on : {before : Run} {work limit half left : ℕ} {between new : Machine} → Passes before work limit between half →
    Passes (still_of between) (work_of (still_of between) between) half new left → Passes before work limit new left
passes-on first next = record {
  answers = next.answers ∙ first.answers;
  end = next.end ∙ first.end;
  spends = spends-on first.spends next.spends;
  less = omega (arith, first.less, next.less);
  no_more = omega (arith, first.no_more, next.no_more);
}

-- a subroutine that is left
pub goes-back : {before : Run} {work limit left : ℕ} {between new : Machine} → Passes before work limit between left →
    still_of between ≡ still_of new →
    work_of (still_of new) new < work_of (still_of between) between → Passes before work limit new left
goes-back {before} {work} {limit} {left} first same falls = record {
  answers = sym (ap (λ (run : Run). run.answers) same) ∙ first.answers;
  end = sym (ap (λ (run : Run). run.end) same) ∙ first.end;
  spends = subst (λ (run : Run). Spends limit before.costs left run.costs) same first.spends;
  less = first.less;
  no_more = omega (arith, falls, first.no_more);
}

-- a number or an operator, which is paid
pub goes-on : {before : Run} {work limit left after price : ℕ} {between new : Machine} → Passes before work limit between left → left ≢ 0 →
    still_of between ≡ with_step price (still_of new) → 0 < price → after ≡ left - price → work_of (still_of new) new < work_of
    (still_of between) between →
    Passes before work limit new after
goes-on first some same positive pays falls = record {
  answers = sym (ap (λ (run : Run). run.answers) same) ∙ first.answers;
  end = sym (ap (λ (run : Run). run.end) same) ∙ first.end;
  spends = paid first.spends some same positive pays;
  less = omega (arith, first.less, pays);
  no_more = omega (arith, falls, first.no_more);
}

-- the end without fault, and a refusal
pub used-up : {before : Run} {work limit left : ℕ} {between : Machine} (st : State) → Passes before work limit between left →
    still_of between ≡ at_end (UsedUp st) →
    ((before.answers ≡ []) × ((st : State) × (before.end ≡ UsedUp st))) × Spends limit before.costs left []
used-up {before} {work} {limit} {left} st first is = (
  (sym first.answers ∙ ap (λ (run : Run). run.answers) is, (st, sym first.end ∙ ap (λ (run : Run). run.end) is)),
  subst (λ (run : Run). Spends limit before.costs left run.costs) is first.spends,
)

pub refused : {before : Run} {work limit left : ℕ} {between : Machine} (e : Refused) → Passes before work limit between left →
    (e ≡ Memory) ⊎ (still_of between ≡ at_end (Stopped (reason e))) →
    ((e ≡ Memory) ⊎ ((before.answers ≡ []) × (before.end ≡ Stopped (reason e)))) × ((rest : List ℕ) × Spends limit before.costs left
    rest × ((e ≡ Memory) ⊎ (rest ≡ [])))
refused {before} {work} {limit} {left} {between} e first (inl memory) = (inl memory, ((still_of between).costs, first.spends, inl memory))
refused {before} {work} {limit} {left} {between} e first (inr is) = (
  inr (sym first.answers ∙ ap (λ (run : Run). run.answers) is, sym first.end ∙ ap (λ (run : Run). run.end) is),
  ([], subst (λ (run : Run). Spends limit before.costs left run.costs) is first.spends, inr refl),
)

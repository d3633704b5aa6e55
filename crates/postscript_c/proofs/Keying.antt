-- The place that an operator names, or none.
use Rattle.std.proofs.Common.{◌≡◌, ◌≢◌, inl, inr, ℕ, [], ◌∷◌, Err, subst, arith}
use Rattle.postscript_base.specs.Error.{IsOneOf, code}
use Rattle.postscript_base.specs.Tape.Outcome.{Answers, Got, Outcome, RefusedAs, same}
use Rattle.postscript_base.specs.declared.error.Error.{Error}
use Rattle.postscript_base.specs.declared.error.Error.TheVariants.{Memory}

-- a refusal that is one of these is not that memory ran out
three : IsOneOf (13 ∷ 14 ∷ 15 ∷ []) 3 → ⊥
three (inl is) = absurd (omega (arith, is))
three (inr (inl is)) = absurd (omega (arith, is))
three (inr (inr (inl is))) = absurd (omega (arith, is))
three (inr (inr (inr never))) = never

not-memory : (e : Error) → IsOneOf (13 ∷ 14 ∷ 15 ∷ []) (code e) → e ≢ Memory
not-memory e listed is = three (subst (λ e. IsOneOf (13 ∷ 14 ∷ 15 ∷ []) (code e)) is listed)

pub no-place : (e : Error) (outcome : Outcome ℕ) → IsOneOf (13 ∷ 14 ∷ 15 ∷ []) (code e) → Answers same (Err e) 0 outcome →
    (there next : ℕ) → outcome ≡ Got there next → ⊥
no-place e outcome listed answers there next is = subst (λ (o : Outcome ℕ). RefusedAs e o) is (answers (not-memory e listed))

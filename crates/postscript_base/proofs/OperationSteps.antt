-- The steps of an operation.
use Rattle.std.proofs.lemmas.Bool.Decides.{nat_tests}
use Rattle.std.proofs.Common.{◌≡◌, refl, sym, ap, subst, ◌∙◌, ℕ, zero, suc, ◌+◌, ◌-◌, ◌≤◌, List, [], ◌∷◌, ◌++◌, length, Option, Some, None, arith, inl, if◌then◌else◌}
use Rattle.postscript_base.specs.Tape.Outcome.{Outcome, Got, Reading, RefusedAs, after, ◌>>=◌, pure}
use Rattle.postscript_base.specs.Tape.Onward.{TakesBytes}
use Rattle.postscript_base.specs.Compact1.Decimal.{Decimal}
use Rattle.postscript_base.specs.Compact1.Number.{begun}
use Rattle.postscript_base.specs.Compact1.Operation.{Operation, begins_operand, ended_or, known, operation, operation_from, operator_begun, step}
use Rattle.postscript_base.specs.declared.compact1.operator.Operator.{Operator}
use Rattle.postscript_base.specs.declared.error.Error.{Error}
use Rattle.postscript_base.proofs.Onward.{Goes, goes_after, goes_later, goes_moves, begun_goes, byte_then_goes}
use Rattle.postscript_base.proofs.Outcomes.{refused_after}

known_goes : (o : Option Operator) (bytes : List ℕ) (place : ℕ) → place ≤ length bytes → Goes place (length bytes) (known o bytes place)
known_goes o bytes place h = grind arith

abbrev pub Found : Type 0
Found = Option Operator × List Decimal

-- what follows the first byte
abbrev pub behind : List Decimal → ℕ → Reading Found
behind operands first = if begins_operand first then (begun first >>= λ operand. pure (None, operands ++ operand ∷ []))
    else (operator_begun first >>= λ operator. pure (Some operator, operands))

behind_goes : (operands : List Decimal) (first : ℕ) (bytes : List ℕ) (place : ℕ) → place ≤ length bytes → Goes place (length bytes)
    (behind operands first bytes place)
behind_goes operands first bytes place h = grind (arith, nat_tests, goes_after, begun_goes, goes_later, byte_then_goes, known_goes)

pub step_goes : (operands : List Decimal) (bytes : List ℕ) (place : ℕ) → Goes (place + 1) (length bytes) (step operands bytes place)
unfolding step
step_goes operands bytes place = byte_then_goes (behind operands) (behind_goes operands) bytes place

rest_goes : (o : Option Operator) (all : List Decimal) (more : List Decimal → Reading Operation) (bytes : List ℕ) (place : ℕ) →
    place ≤ length bytes → ((all : List Decimal) → Goes (place + 1) (length bytes) (more all bytes place)) → Goes place (length bytes)
    (ended_or o all more bytes place)
rest_goes o all more bytes place h each = grind arith

from_goes : (most : ℕ) (operands : List Decimal) (bytes : List ℕ) (place : ℕ) → Goes (place + 1) (length bytes)
    (operation_from most operands bytes place)
unfolding operation_from
from_goes zero operands bytes place = inl refl
from_goes (suc most) operands bytes place =
    goes_after (step operands bytes place) _ (place + 1) (length bytes) (step_goes operands bytes place)
    (λ found next within. rest_goes found.0 found.1 (operation_from most) bytes next within (λ all. from_goes most all bytes next))

pub operation_goes : (bytes : List ℕ) (place : ℕ) → Goes (place + 1) (length bytes) (operation bytes place)
unfolding operation
operation_goes bytes place = from_goes (suc (length bytes)) [] bytes place

pub operation_takes : TakesBytes operation
operation_takes bytes place = goes_moves (operation bytes place) place (length bytes) (operation_goes bytes place)

-- what the loop over the operands keeps: behind the operands so far, the rest is read as the whole is
pub record IsWithin (bytes : List ℕ) (start : ℕ) (operands : List Decimal) (place : ℕ) : Type 0 where
  pub steps : ℕ
  pub enough : length bytes - place ≤ steps
  pub same : operation_from (suc steps) operands bytes place ≡ operation bytes start

pub starts : (operands : List Decimal) (bytes : List ℕ) (place : ℕ) → operands ≡ [] → IsWithin bytes place operands place
unfolding operation
starts operands bytes place none =
    record { steps = length bytes; enough = omega arith; same = ap (λ none. operation_from (suc (length bytes)) none bytes place) none }

pub stepped : (most : ℕ) (operands : List Decimal) (bytes : List ℕ) (place : ℕ) (o : Outcome Found) → step operands bytes place ≡ o →
    operation_from (suc most) operands bytes place ≡ after o (λ found next. ended_or found.0 found.1 (operation_from most) bytes next)
unfolding operation_from
stepped most operands bytes place o e = refl ∙ ap (λ o. after o (λ found next. ended_or found.0 found.1 (operation_from most) bytes next)) e

pub goes_on : (bytes : List ℕ) (start : ℕ) (operands more : List Decimal) (place next : ℕ) →
    step operands bytes place ≡ Got (None, more) next → IsWithin bytes start operands place → IsWithin bytes start more next
goes_on bytes start operands more place next e h = go h.steps h.enough h.same
  where
    moved : (place + 1 ≤ next) × (next ≤ length bytes)
    moved = subst (Goes {A = Found} (place + 1) (length bytes)) e (step_goes operands bytes place)

    go : (s : ℕ) → length bytes - place ≤ s → operation_from (suc s) operands bytes place ≡ operation bytes start →
        IsWithin bytes start more next
    go zero enough same = let up = moved.0 in let within = moved.1 in absurd (omega arith)
    go (suc s) enough same =
        let up = moved.0 in
        let within = moved.1 in
        record { steps = s; enough = omega arith; same = sym (stepped (suc s) operands bytes place _ e) ∙ same }

pub ends : (bytes : List ℕ) (start : ℕ) (operands more : List Decimal) (place next : ℕ) (operator : Operator) →
    step operands bytes place ≡ Got (Some operator, more) next → IsWithin bytes start operands place →
    operation bytes start ≡ Got (operator, more) next
ends bytes start operands more place next operator e h = sym h.same ∙ stepped h.steps operands bytes place _ e

pub refused : (bytes : List ℕ) (start : ℕ) (operands : List Decimal) (place : ℕ) (e : Error) → RefusedAs e (step operands bytes place) →
    IsWithin bytes start operands place → RefusedAs e (operation bytes start)
unfolding operation_from
refused bytes start operands place e refusal h = subst (RefusedAs e) h.same (subst (RefusedAs e) (sym (refl)) (refused_after _ _ e refusal))

-- Operations are operands and an operator.
use Rattle.std.proofs.Common.{◌≡◌, refl, sym, ap, subst, ◌∙◌, ℕ, zero, suc, ◌+◌, ◌-◌, ◌<◌, List, [], ◌∷◌, ◌++◌, length, Some, None, arith, append_assoc}
use Rattle.std.proofs.lemmas.List.{append-nil}
use Rattle.postscript_base.specs.Refusal.{Refusal}
use Rattle.postscript_base.specs.Tape.Outcome.{Outcome, Got, Fault, Past, after, end}
use Rattle.postscript_base.specs.Tape.Onward.{MovesOn}
use Rattle.postscript_base.specs.Compact1.Decimal.{Decimal}
use Rattle.postscript_base.specs.Compact1.Number.{number}
use Rattle.postscript_base.specs.Compact1.Operation.{Operation, ended_or, operation, operation_from, step}
use Rattle.postscript_base.specs.Compact1.DictionaryLaw.{UnfinishedAt}
use Rattle.postscript_base.specs.Compact1.OperationLaw.{IsNoOperation, ReadsOperations, OperandsAt, OperationAt, BadAt, operator}
use Rattle.postscript_base.proofs.Onward.{Goes, dict_number_takes}
use Rattle.postscript_base.proofs.OperationSteps.{Found, step_goes, stepped}
use Rattle.postscript_base.proofs.Cuts.{IsStep, step_is, operand_step, operator_step, bad_step, cut_step}

-- with steps enough, operands that stand there are taken to those in front
all_taken : (most : ℕ) (front more : List Decimal) (bytes : List ℕ) (place at : ℕ) → OperandsAt bytes place more at →
    length bytes - place < most
    → (left : ℕ) × (operation_from most front bytes place ≡ operation_from (suc left) (front ++ more) bytes at)
all_taken zero front more bytes place at h few = absurd (omega arith)
all_taken (suc most) front [] bytes place at h few = (
  most,
  ap (λ p. operation_from (suc most) front bytes p) (sym h)
      ∙ ap (λ all. operation_from (suc most) all bytes at) (sym (append-nil front)),
)
all_taken (suc most) front (operand ∷ more) bytes place at h few =
    let moved = subst (MovesOn place (length bytes)) h.1 (dict_number_takes bytes place) in
    let up = moved.0 in
    let within = moved.1 in
    let rest = all_taken most (front ++ operand ∷ []) more bytes h.0 at h.2 (omega arith) in (
      rest.0,
      stepped most front bytes place _ (operand_step front bytes place operand h.0 h.1) ∙ rest.1
          ∙ ap (λ all. operation_from (suc rest.0) all bytes at) (append_assoc front (operand ∷ []) more),
    )

-- behind operands the next step decides
decides : (operands : List Decimal) (bytes : List ℕ) (place at : ℕ) (found : Outcome Found) (o : Outcome Operation) →
    OperandsAt bytes place operands at → step operands bytes at ≡ found
    → ((left : ℕ) → after found (λ found next. ended_or found.0 found.1 (operation_from left) bytes next) ≡ o) → operation bytes place ≡ o
unfolding operation
decides operands bytes place at found o are one last =
    let rest = all_taken (suc (length bytes)) [] operands bytes place at are (omega arith) in rest.1
    ∙ stepped rest.0 operands bytes at found one ∙ last rest.0

pub reads : (bytes : List ℕ) (place : ℕ) (o : Operation) (next : ℕ) → OperationAt bytes place o next → operation bytes place ≡ Got o next
reads bytes place o next h =
    decides o.1 bytes place h.0 (Got (Some o.0, o.1) next) (Got o next) h.1 (operator_step o.1 bytes h.0 o.0 next h.2) (λ left. refl)

pub cut_ends : (bytes : List ℕ) (place : ℕ) → UnfinishedAt bytes place → operation bytes place ≡ end
cut_ends bytes place h = decides h.operands bytes place h.next end end h.are (cut_step h.operands bytes h.next h.cut) (λ left. refl)

pub bad_ends : (bytes : List ℕ) (place next : ℕ) (operands : List Decimal) (refusal : Refusal) → OperandsAt bytes place operands next →
    BadAt bytes next refusal → operation bytes place ≡ Fault refusal
bad_ends bytes place next operands refusal are bad =
    decides operands bytes place next (Fault refusal) (Fault refusal) are (bad_step operands bytes next refusal bad) (λ left. refl)

-- operands behind those in front, and an operator
pub record IsBehind (front : List Decimal) (bytes : List ℕ) (place : ℕ) (o : Operation) (next : ℕ) : Type 0 where
  pub more : List Decimal
  pub at : ℕ
  pub are : OperandsAt bytes place more at
  pub last : operator bytes at ≡ Got o.0 next
  pub all : o.1 ≡ front ++ more

abbrev pub IsOperation : List Decimal → List ℕ → ℕ → Outcome Operation → Type 0
IsOperation front bytes place (Got o next) = IsBehind front bytes place o next
IsOperation front bytes place (Fault refusal) = IsNoOperation bytes place refusal
IsOperation front bytes place Past = ⊥

one_more : (front : List Decimal) (operand : Decimal) (all : List Decimal) (bytes : List ℕ) (place at : ℕ) → all ≡ front ++ operand ∷ [] →
    number bytes place ≡ Got operand at
    → (o : Outcome Operation) → IsOperation all bytes at o → IsOperation front bytes place o
one_more front operand all bytes place at is one (Got o next) h =
    record {
      more =
          operand ∷ h.more;
      at = h.at;
      are = (at, one, h.are);
      last = h.last;
      all = h.all ∙ ap (λ all. all ++ h.more) is ∙ append_assoc front (operand ∷ []) h.more;
    }
one_more front operand all bytes place at is one (Fault refusal) h =
    record { operands = operand ∷ h.operands; next = h.next; are = (at, one, h.are); bad = h.bad }
one_more front operand all bytes place at is one Past h = h

operation_from_is : (most : ℕ) (front : List Decimal) (bytes : List ℕ) (place : ℕ) → length bytes - place < most →
    IsOperation front bytes place (operation_from most front bytes place)
operation_from_is zero front bytes place few = absurd (omega arith)
operation_from_is (suc most) front bytes place few =
    subst (IsOperation front bytes place) (sym (stepped most front bytes place _ refl))
    (by (step front bytes place) (step_is front bytes place) (step_goes front bytes place)
    (λ all at less. operation_from_is most all bytes at less))
  where
    by : (s : Outcome Found) → IsStep front bytes place s → Goes (place + 1) (length bytes) s →
        ((all : List Decimal) (at : ℕ) → length bytes - at < most → IsOperation all bytes at (operation_from most all bytes at))
        → IsOperation front bytes place (after s (λ found next. ended_or found.0 found.1 (operation_from most) bytes next))
    by (Got (None, all) at) h moves later =
        let up = moves.0 in let within = moves.1 in
        one_more front h.0 all bytes place at h.1 h.2 (operation_from most all bytes at) (later all at (omega arith))
    by (Got (Some o, all) at) h moves later = record { more = []; at = place; are = refl; last = h.1; all = h.0 ∙ sym (append-nil front) }
    by (Fault refusal) h moves later = record { operands = []; next = place; are = refl; bad = h }
    by Past h moves later = h

pub operation_is : (bytes : List ℕ) (place : ℕ) → IsOperation [] bytes place (operation bytes place)
unfolding operation
operation_is bytes place = operation_from_is (suc (length bytes)) [] bytes place (omega arith)

pub is_at : (bytes : List ℕ) (place : ℕ) (o : Operation) (next : ℕ) → IsBehind [] bytes place o next → OperationAt bytes place o next
is_at bytes place o next h = (h.at, subst (λ all. OperandsAt bytes place all h.at) (sym h.all) h.are, h.last)

pub reads_operations : ReadsOperations
reads_operations = record {
  all = reads;
  only = λ bytes place o next e. is_at bytes place o next (subst (IsOperation [] bytes place) e (operation_is bytes place));
  refused = λ bytes place refusal h. bad_ends bytes place h.next h.operands refusal h.are h.bad;
  refused_only = λ bytes place refusal e. subst (IsOperation [] bytes place) e (operation_is bytes place);
  never_past = λ bytes place e. subst (IsOperation [] bytes place) e (operation_is bytes place);
}

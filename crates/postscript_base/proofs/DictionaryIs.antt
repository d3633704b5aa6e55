-- A dictionary is read where the bytes are one.
use Rattle.std.proofs.Common.{◌≡◌, ◌⊎◌, refl, sym, ap, subst, ◌∙◌, ℕ, zero, suc, ◌+◌, ◌-◌, ◌<◌, Bool, true, false, cond, List, [], ◌∷◌, length, Option, Some, None, arith, fold, if◌then◌else◌}
use Rattle.std.proofs.lemmas.List.{append-nil}
use Rattle.std.specs.Option.{option_or}
use Rattle.std.specs.FinMap.{empty, get, get-insert, get-empty, same_map}
use Rattle.std.specs.Ordering.{eq_by_cmp}
use Rattle.postscript_base.specs.Error.{IsOneOf}
use Rattle.postscript_base.specs.Refusal.{Refusal, malformed_number, out_of_range_number, unknown_operator}
use Rattle.postscript_base.specs.RefusalOf.{number_of}
use Rattle.postscript_base.specs.Tape.Outcome.{Outcome, Got, Fault, Past, after, end}
use Rattle.postscript_base.specs.Tape.Loops.{is_end, to_end, to_end_from, unless_end}
use Rattle.postscript_base.specs.Compact1.Decimal.{Decimal}
use Rattle.postscript_base.specs.Compact1.Operation.{Operation, operation}
use Rattle.postscript_base.specs.Compact1.Operators.{operator_cmp}
use Rattle.postscript_base.specs.Compact1.Dictionary.{Dictionary, dictionary, dictionary_of, put}
use Rattle.postscript_base.specs.Compact1.DictionaryLaw.{IsDictionary, IsRefused, OperationsAt, ReadsDictionaries, UnfinishedAt, last_of}
use Rattle.postscript_base.specs.declared.compact1.operator.Operator.{Operator}
use Rattle.postscript_base.proofs.DictionaryMaps.{operators_total, exact}
use Rattle.postscript_base.proofs.Onward.{Goes, known_refusals}
use Rattle.postscript_base.proofs.OperationSteps.{operation_goes}
use Rattle.postscript_base.proofs.Repeats.{with_front, without_front}
use Rattle.postscript_base.proofs.Cuts.{bad_cut}
use Rattle.postscript_base.proofs.OperationIs.{IsOperation, bad_ends, cut_ends, is_at, operation_is, reads}

choose : (x : Option (List Decimal)) (b : Bool) (v : List Decimal) (y : Option (List Decimal)) →
    option_or x (cond b (Some v) y) ≡ option_or (option_or x (cond b (Some v) None)) y
choose x b v y = grind arith

-- the last operation of each operator counts
get_fold : (d : Dictionary) (os : List Operation) (q : Operator) → get (fold put d os) q ≡ option_or (last_of os q) (get d q)
get_fold d [] q = refl
get_fold d (o ∷ os) q =
    get_fold (put d o) os q ∙ ap (option_or (last_of os q)) (get-insert operators_total d o.0 o.1 q)
    ∙ choose (last_of os q) (eq_by_cmp operator_cmp q o.0) o.1 (get d q)

pub get_last : (os : List Operation) (q : Operator) → get (dictionary_of os) q ≡ last_of os q
get_last os q = get_fold empty os q ∙ ap (option_or (last_of os q)) (get-empty operator_cmp q) ∙ (grind arith)

abbrev following : List ℕ → ℕ → Operation → ℕ → Outcome (List Operation)
following bytes most o next = after (to_end_from operation most bytes next) (λ rest next. Got (o ∷ rest) next)

-- the next operation decides
stepped : (most : ℕ) (bytes : List ℕ) (place : ℕ) (o : Outcome Operation) → operation bytes place ≡ o →
    to_end_from operation (suc most) bytes place ≡ unless_end o (Got [] (length bytes)) (following bytes most)
unfolding to_end_from
stepped most bytes place o e = ap (λ o. unless_end o (Got [] (length bytes)) (following bytes most)) e

-- with steps enough, operations that stand there come first
all_taken : (most : ℕ) (bytes : List ℕ) (place : ℕ) (os : List Operation) (next : ℕ) → OperationsAt bytes place os next →
    length bytes - place < most
    → (left : ℕ) × (to_end_from operation most bytes place ≡ with_front os (to_end_from operation (suc left) bytes next))
all_taken zero bytes place os next h few = absurd (omega arith)
all_taken (suc most) bytes place [] next h few =
    (most, ap (λ p. to_end_from operation (suc most) bytes p) (sym h) ∙ sym (without_front (to_end_from operation (suc most) bytes next)))
all_taken (suc most) bytes place (o ∷ os) next h few =
    let one = reads bytes place o h.0 h.1 in
    let moved = subst (Goes {A = Operation} (place + 1) (length bytes)) one (operation_goes bytes place) in
    let up = moved.0 in
    let within = moved.1 in
    let rest = all_taken most bytes h.0 os next h.2 (omega arith) in
    (rest.0, stepped most bytes place _ one ∙ ap (λ all. after all (λ rest next. Got (o ∷ rest) next)) rest.1 ∙ (grind arith))

-- behind operations, what ends them decides
decides : (bytes : List ℕ) (place : ℕ) (os : List Operation) (next : ℕ) (one : Outcome Operation) (end_of : Outcome (List Operation)) →
    OperationsAt bytes place os next → operation bytes next ≡ one
    → ((left : ℕ) → unless_end one (Got [] (length bytes)) (following bytes left) ≡ end_of) → dictionary bytes place ≡ after
    (with_front os end_of) (λ all next. Got (dictionary_of all) next)
unfolding dictionary to_end
decides bytes place os next one end_of are e ended =
    let rest = all_taken (suc (length bytes)) bytes place os next are (omega arith) in
    ap (λ o. after o (λ all next. Got (dictionary_of all) next))
    (rest.1 ∙ ap (with_front os) (stepped rest.0 bytes next one e ∙ ended rest.0))

all : (bytes : List ℕ) (place : ℕ) (map : Dictionary) → IsDictionary bytes place map → dictionary bytes place ≡ Got map (length bytes)
all bytes place map h =
    let same : dictionary_of h.operations ≡ map = same_map operators_total exact _ _ (λ q. get_last h.operations q ∙ sym (h.last q)) in
    decides bytes place h.operations h.next end (Got [] (length bytes)) h.are (cut_ends bytes h.next h.rest) (λ left. refl)
    ∙ ap (λ os. Got (dictionary_of os) (length bytes)) (append-nil h.operations) ∙ ap (λ d. Got d (length bytes)) same

no_end : (bytes : List ℕ) (refusal : Refusal) → is_end refusal ≡ false → (left : ℕ) → unless_end (Fault refusal) (Got [] (length bytes))
    (following bytes left) ≡ Fault refusal
no_end bytes refusal other left = rw other refl

refused : (bytes : List ℕ) (place : ℕ) (refusal : Refusal) → IsRefused bytes place refusal → dictionary bytes place ≡ Fault refusal
refused bytes place refusal h =
    decides bytes place h.operations h.front (Fault refusal) (Fault refusal) h.are
    (bad_ends bytes h.front h.next h.operands refusal h.stand h.bad)
    (no_end bytes refusal (sym (bad_cut bytes h.next refusal h.bad) ∙ h.whole))

-- operations and what the end cuts
record Run (bytes : List ℕ) (place : ℕ) (os : List Operation) : Type 0 where
  pub rest : ℕ
  pub are : OperationsAt bytes place os rest
  pub cut : UnfinishedAt bytes rest

abbrev IsRun : List ℕ → ℕ → Outcome (List Operation) → Type 0
IsRun bytes place (Got os next) = Run bytes place os × (next ≡ length bytes)
IsRun bytes place (Fault refusal) = IsRefused bytes place refusal
IsRun bytes place Past = ⊥

run_is : (most : ℕ) (bytes : List ℕ) (place : ℕ) → length bytes - place < most → IsRun bytes place (to_end_from operation most bytes place)
run_is zero bytes place few = absurd (omega arith)
run_is (suc most) bytes place few =
    subst (IsRun bytes place) (sym (stepped most bytes place _ refl))
    (by (operation bytes place) (operation_is bytes place) (operation_goes bytes place) (λ at less. run_is most bytes at less))
  where
    by : (o : Outcome Operation) → IsOperation [] bytes place o → Goes (place + 1) (length bytes) o →
        ((at : ℕ) → length bytes - at < most → IsRun bytes at (to_end_from operation most bytes at))
        → IsRun bytes place (unless_end o (Got [] (length bytes)) (following bytes most))
    by (Got o at) h moves later =
        let up = moves.0 in let within = moves.1 in rest (to_end_from operation most bytes at) (later at (omega arith))
      where
        rest : (r : Outcome (List Operation)) → IsRun bytes at r → IsRun bytes place (after r (λ rest next. Got (o ∷ rest) next))
        rest (Got os last) g = (record { rest = g.0.rest; are = (at, is_at bytes place o at h, g.0.are); cut = g.0.cut }, g.1)
        rest (Fault refusal) g =
            record {
              operations =
                  o ∷ g.operations;
              front = g.front;
              are = (at, is_at bytes place o at h, g.are);
              operands = g.operands;
              next = g.next;
              stand = g.stand;
              bad = g.bad;
              whole = g.whole;
            }
        rest Past g = g
    by (Fault refusal) h moves later = ended (is_end refusal) refl
      where
        ended : (b : Bool) → is_end refusal ≡ b → IsRun bytes place (if b then Got [] (length bytes) else Fault refusal)
        ended true e = (
          record {
            rest = place;
            are = refl;
            cut = record { operands = h.operands; next = h.next; are = h.are; cut = bad_cut bytes h.next refusal h.bad ∙ e };
          },
          refl,
        )
        ended false e =
            record {
              operations =
                  [];
              front = place;
              are = refl;
              operands = h.operands;
              next = h.next;
              stand = h.are;
              bad = h.bad;
              whole = bad_cut bytes h.next refusal h.bad ∙ e;
            }
    by Past h moves later = h

abbrev Is : List ℕ → ℕ → Outcome Dictionary → Type 0
Is bytes place (Got map next) = IsDictionary bytes place map × (next ≡ length bytes)
Is bytes place (Fault refusal) = IsRefused bytes place refusal
Is bytes place Past = ⊥

refusals_known : (refusal : Refusal) → IsOneOf known_refusals (number_of refusal) → is_end refusal ≡ false →
    (refusal ≡ malformed_number) ⊎ ((refusal ≡ out_of_range_number) ⊎ (refusal ≡ unknown_operator))
refusals_known refusal one other = grind arith

dictionary_is : (bytes : List ℕ) (place : ℕ) → Is bytes place (dictionary bytes place)
unfolding dictionary to_end
dictionary_is bytes place = grind (arith, run_is, all, get_last)

refused_only : (bytes : List ℕ) (place : ℕ) (refusal : Refusal) → dictionary bytes place ≡ Fault refusal → IsRefused bytes place refusal
refused_only bytes place refusal e = subst (Is bytes place) e (dictionary_is bytes place)

refusals : (bytes : List ℕ) (place : ℕ) (refusal : Refusal) → dictionary bytes place ≡ Fault refusal →
    (refusal ≡ malformed_number) ⊎ ((refusal ≡ out_of_range_number) ⊎ (refusal ≡ unknown_operator))
refusals bytes place refusal e =
    let h = refused_only bytes place refusal e in
    let faulty = bad_ends bytes h.front h.next h.operands refusal h.stand h.bad in
    refusals_known refusal (subst (Goes {A = Operation} (h.front + 1) (length bytes)) faulty (operation_goes bytes h.front))
    (sym (bad_cut bytes h.next refusal h.bad) ∙ h.whole)

pub reads_dictionaries : ReadsDictionaries
reads_dictionaries = record {
  all = all;
  only = λ bytes place map next e. subst (Is bytes place) e (dictionary_is bytes place);
  refused = refused;
  refused_only = refused_only;
  refusals = refusals;
  never_past = λ bytes place e. subst (Is bytes place) e (dictionary_is bytes place);
}

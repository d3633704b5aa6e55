-- What the end cuts, and what stands behind operands: an operand more, an operator, or neither.
use Rattle.std.proofs.Common.{◌≡◌, refl, sym, ap, subst, ◌∙◌, ℕ, ◌+◌, ◌-◌, Bool, true, false, ◌&&◌, List, [], ◌∷◌, ◌++◌, length, drop, ◌==◌, nat_lt, not, Option, Some, None, arith, if◌then◌else◌, length-drop}
use Rattle.std.specs.Prelude.{nat_eq}
use Rattle.std.specs.List.{prefix_len}
use Rattle.std.specs.Map.{lookup}
use Rattle.std.proofs.lemmas.List.{drop-drop}
use Rattle.std.proofs.lemmas.List.Sums.{prefix_len-le-length}
use Rattle.std.proofs.lemmas.Bool.Decides.{nat_tests}
use Rattle.postscript_base.specs.Refusal.{Refusal, malformed_number, unexpected_eof, unknown_operator}
use Rattle.postscript_base.specs.Tape.Outcome.{Outcome, Got, Fault, Past, Reading, after, end, ◌>>=◌, pure}
use Rattle.postscript_base.specs.Tape.Loops.{is_end}
use Rattle.postscript_base.specs.Numbers.{slice, number as unsigned, two_sided, above, below}
use Rattle.postscript_base.specs.Compact1.Decimal.{Decimal}
use Rattle.postscript_base.specs.Compact1.Number.{begun, number, whole}
use Rattle.postscript_base.specs.Compact1.Reals.{Real, real_of}
use Rattle.postscript_base.specs.Compact1.Nibbles.{ended_by, is_in_text, nibbles, real, text_of_real, valued}
use Rattle.postscript_base.specs.Compact1.Operation.{begins_operand, operator_begun, step}
use Rattle.postscript_base.specs.Compact1.Operators.{operator_of, operators}
use Rattle.postscript_base.specs.Compact1.DictionaryLaw.{is_cut, is_cut_operand, is_open}
use Rattle.postscript_base.specs.Compact1.OperationLaw.{begins, operator, BadAt, RefusedBy}
use Rattle.postscript_base.specs.declared.compact1.operator.Operator.{Operator}
use Rattle.postscript_base.proofs.Nibbles.{byte_at, byte_none}
use Rattle.postscript_base.proofs.Onward.{Goes}
use Rattle.postscript_base.proofs.OperationSteps.{Found, step_goes}

-- whether a reading was refused at the end of the input
abbrev pub wants : {A : Type 0} → Outcome A → Bool
wants (Got value next) = false
wants (Fault refusal) = is_end refusal
wants Past = false

wants_after : {A B : Type 0} (o : Outcome A) (f : A → ℕ → Outcome B) → ((value : A) (next : ℕ) → wants (f value next) ≡ false) →
    wants (after o f) ≡ wants o
wants_after o f h = grind arith

wants_number : (size : ℕ) (bytes : List ℕ) (place : ℕ) → wants (unsigned size bytes place) ≡ nat_lt (length (drop place bytes)) size
unfolding unsigned slice
wants_number size bytes place =
    wants_after (slice size bytes place) _ (λ value next. refl) ∙ rw (length-drop place bytes) (grind (arith, nat_tests))

wants_ended : (all rest text : List ℕ) (next : ℕ) → drop (prefix_len is_in_text all) all ≡ rest →
    wants (ended_by rest text next) ≡ is_open all
wants_ended all rest text next e = by rest (sym (length-drop (prefix_len is_in_text all) all) ∙ ap length e)
  where
    by : (rest : List ℕ) → length all - prefix_len is_in_text all ≡ length rest → wants (ended_by rest text next) ≡ is_open all
    by rest left = grind (arith, prefix_len-le-length, nat_tests)

wants_text : (bytes : List ℕ) (place : ℕ) → wants (text_of_real bytes place) ≡ is_open (nibbles (drop place bytes))
unfolding text_of_real
wants_text bytes place = grind (arith, wants_ended)

wants_valued : (o : Option Real) (bytes : List ℕ) (place : ℕ) → wants (valued o bytes place) ≡ false
wants_valued o bytes place = grind arith

wants_if : {A : Type 0} (b : Bool) (x y : Reading A) (bytes : List ℕ) (place : ℕ) (s t : Bool) → wants (x bytes place) ≡ s →
    wants (y bytes place) ≡ t → wants ((if b then x else y) bytes place) ≡ (if b then s else t)
wants_if b x y bytes place s t h g = grind arith

wants_of : {A : Type 0} (size : ℕ) (f : ℕ → A) (bytes : List ℕ) (place : ℕ) →
    wants ((unsigned size >>= λ n. pure (f n)) bytes place) ≡ nat_lt (length (drop place bytes)) size
wants_of size f bytes place = wants_after (unsigned size bytes place) _ (λ value next. refl) ∙ wants_number size bytes place

wants_real : (bytes : List ℕ) (place : ℕ) → wants (real bytes place) ≡ is_open (nibbles (drop place bytes))
unfolding real
wants_real bytes place =
    wants_after (text_of_real bytes place) _ (λ value next. wants_valued (real_of value) bytes next) ∙ wants_text bytes place

wants_begun : (first : ℕ) (bytes : List ℕ) (place : ℕ) → wants (begun first bytes place) ≡ is_cut_operand first (drop place bytes)
wants_begun first bytes place =
    wants_if (first == 0x1c) _ _ bytes place _ _ (wants_of 2 (λ n. whole (two_sided 0x8000 n)) bytes place)
    (wants_if (first == 0x1d) _ _ bytes place _ _ (wants_of 4 (λ n. whole (two_sided 0x80000000 n)) bytes place)
    (wants_if (first == 0x1e) _ _ bytes place _ _ (wants_real bytes place)
    (wants_if (nat_lt first 0x20) _ _ bytes place _ _ refl
    (wants_if (nat_lt first 0xf7) _ _ bytes place _ _ refl
    (wants_if (nat_lt first 0xfb) _ _ bytes place _ _ (wants_of 1 (λ n. whole (above first n)) bytes place)
    (wants_if (nat_lt first 0xff) _ _ bytes place _ _ (wants_of 1 (λ n. whole (below first n)) bytes place) refl))))))
    ∙ grind (arith, nat_tests)

-- no operator has the code of an operand's first byte
no_operand : List (ℕ × Operator) → Bool
no_operand [] = true
no_operand (entry ∷ entries) = not (begins_operand entry.0) && no_operand entries

no_entry : (n : ℕ) (entries : List (ℕ × Operator)) → no_operand entries ≡ true → begins_operand n ≡ true → lookup (nat_eq n) entries ≡ None
unfolding no_operand
no_entry n [] p h = refl
no_entry n (entry ∷ entries) p h = let rest = no_entry n entries in grind (arith, nat_tests, rest)

unknown : (first : ℕ) → begins_operand first ≡ true → operator_of first ≡ None
unfolding operator_of no_operand
unknown first h = no_entry first operators refl h

abbrev pub found_operand : List Decimal → Decimal → ℕ → Outcome Found
found_operand operands operand next = Got (None, operands ++ operand ∷ []) next

abbrev pub found_operator : List Decimal → Operator → ℕ → Outcome Found
found_operator operands operator next = Got (Some operator, operands) next

-- What stands at a place: where an operand begins, a number, and no operator; else an operator, and no number.
pub data Stands (bytes : List ℕ) (place : ℕ) : Type 0 where
  a_number : begins (drop place bytes) ≡ true →
      ((operands : List Decimal) → step operands bytes place ≡ after (number bytes place) (found_operand operands))
      → wants (number bytes place) ≡ is_cut (drop place bytes) → operator bytes place ≡ Fault unknown_operator → Stands bytes place
  an_operator : (refusal : Refusal) → begins (drop place bytes) ≡ false →
      ((operands : List Decimal) → step operands bytes place ≡ after (operator bytes place) (found_operator operands))
      → wants (operator bytes place) ≡ is_cut (drop place bytes) → number bytes place ≡ Fault refusal → Stands bytes place

-- where an operand begins only it is cut, and elsewhere only an operator
cut_operand : (first : ℕ) (rest : List ℕ) → begins_operand first ≡ true → is_cut_operand first rest ≡ is_cut (first ∷ rest)
cut_operand first rest h = grind (arith, nat_tests)

cut_operator : (first : ℕ) (rest : List ℕ) → begins_operand first ≡ false →
    ((first == 0x0c) && nat_lt (length rest) 1) ≡ is_cut (first ∷ rest)
cut_operator first rest h = grind (arith, nat_tests)

at_byte : (bytes rest : List ℕ) (place first : ℕ) → first ∷ rest ≡ drop place bytes → Stands bytes place
unfolding step number real
at_byte bytes rest place first e = by (begins_operand first) refl
  where
    got : unsigned 1 bytes place ≡ Got first (place + 1)
    got = byte_at bytes rest place first e

    there : drop (place + 1) bytes ≡ rest
    there = sym (drop-drop 1 place bytes) ∙ sym (ap (drop 1) e)

    number_is : number bytes place ≡ begun first bytes (place + 1)
    number_is = ap (λ o. after o (λ first at. begun first bytes at)) got

    operator_is : operator bytes place ≡ operator_begun first bytes (place + 1)
    operator_is = ap (λ o. after o (λ first at. operator_begun first bytes at)) got

    by : (b : Bool) → begins_operand first ≡ b → Stands bytes place
    by true h = a_number (ap begins (sym e) ∙ h) (λ operands. rw (got, h) refl)
        (ap wants number_is ∙ wants_begun first bytes (place + 1) ∙ ap (is_cut_operand first) there ∙ cut_operand first rest h
        ∙ ap is_cut e)
        (operator_is ∙ (grind (arith, nat_tests, unknown)))
    by false h = an_operator malformed_number (ap begins (sym e) ∙ h) (λ operands. rw (got, h) refl)
        (ap wants operator_is ∙ (grind (arith, wants_after, wants_number)) ∙ ap (λ rest. (first == 0x0c) && nat_lt (length rest) 1) there
        ∙ cut_operator first rest h ∙ ap is_cut e)
        (number_is ∙ (grind (arith, nat_tests)))

pub stands : (bytes : List ℕ) (place : ℕ) → Stands bytes place
unfolding step number
stands bytes place = by (drop place bytes) refl
  where
    by : (rest : List ℕ) → rest ≡ drop place bytes → Stands bytes place
    by [] e =
        let none = byte_none bytes place e in
        an_operator unexpected_eof (ap begins (sym e)) (λ operands. rw none refl) (rw none (ap is_cut e)) (rw none refl)
    by (first ∷ rest) e = at_byte bytes rest place first e

-- a step is refused at the end of the input exactly where the end cuts
wants_step : (front : List Decimal) (bytes : List ℕ) (place : ℕ) → wants (step front bytes place) ≡ is_cut (drop place bytes)
wants_step front bytes place = elim (stands bytes place) [
  | a_number b s w n ↦ ap wants (s front) ∙ wants_after (number bytes place) (found_operand front) (λ operand next. refl) ∙ w
  | an_operator refusal b s w n ↦ ap wants (s front) ∙ wants_after (operator bytes place) (found_operator front) (λ operator next. refl) ∙ w
]

is_fault : {A : Type 0} (o : Outcome A) → wants o ≡ true → o ≡ end
is_fault o e = grind arith

pub cut_step : (front : List Decimal) (bytes : List ℕ) (place : ℕ) → is_cut (drop place bytes) ≡ true → step front bytes place ≡ end
cut_step front bytes place cut = is_fault (step front bytes place) (wants_step front bytes place ∙ cut)

-- an operand is a step
pub operand_step : (front : List Decimal) (bytes : List ℕ) (place : ℕ) (operand : Decimal) (next : ℕ) →
    number bytes place ≡ Got operand next → step front bytes place ≡ Got (None, front ++ operand ∷ []) next
operand_step front bytes place operand next e = elim (stands bytes place) [
  | a_number b s w n ↦ s front ∙ ap (λ o. after o (found_operand front)) e
  | an_operator refusal b s w n ↦ let never : Fault refusal ≡ Got operand next = sym n ∙ e in absurd (cc)
]

-- an operator is a step
pub operator_step : (front : List Decimal) (bytes : List ℕ) (place : ℕ) (o : Operator) (next : ℕ) → operator bytes place ≡ Got o next →
    step front bytes place ≡ Got (Some o, front) next
operator_step front bytes place o next e = elim (stands bytes place) [
  | a_number b s w n ↦ let never : Fault unknown_operator ≡ Got o next = sym n ∙ e in absurd (cc)
  | an_operator refusal b s w n ↦ s front ∙ ap (λ o. after o (found_operator front)) e
]

-- what is refused is a step that is refused
pub bad_step : (front : List Decimal) (bytes : List ℕ) (place : ℕ) (refusal : Refusal) → BadAt bytes place refusal →
    step front bytes place ≡ Fault refusal
bad_step front bytes place refusal bad = grind (arith, stands)

pub bad_cut : (bytes : List ℕ) (place : ℕ) (refusal : Refusal) → BadAt bytes place refusal → is_cut (drop place bytes) ≡ is_end refusal
bad_cut bytes place refusal bad = sym (wants_step [] bytes place) ∙ ap wants (bad_step [] bytes place refusal bad)

-- what a step has read: an operand, an operator, or what is refused
abbrev pub IsStep : List Decimal → List ℕ → ℕ → Outcome Found → Type 0
IsStep front bytes place (Got (None, all) next) =
    (operand : Decimal) × (all ≡ front ++ operand ∷ []) × (number bytes place ≡ Got operand next)
IsStep front bytes place (Got (Some o, all) next) = (all ≡ front) × (operator bytes place ≡ Got o next)
IsStep front bytes place (Fault refusal) = BadAt bytes place refusal
IsStep front bytes place Past = ⊥

pub step_is : (front : List Decimal) (bytes : List ℕ) (place : ℕ) → IsStep front bytes place (step front bytes place)
step_is front bytes place = by (stands bytes place)
  where
    never : step front bytes place ≡ Past → ⊥
    never e = subst (Goes {A = Found} (place + 1) (length bytes)) e (step_goes front bytes place)

    by : Stands bytes place → IsStep front bytes place (step front bytes place)
    by (a_number b s w n) = grind (arith, never)
    by (an_operator other b s w n) = subst (IsStep front bytes place) (sym (s front)) (go (operator bytes place) refl)
      where
        go : (o : Outcome Operator) → operator bytes place ≡ o → IsStep front bytes place (after o (found_operator front))
        go (Got o next) e = (refl, e)
        go (Fault refusal) e = subst (λ b. RefusedBy b bytes place refusal) (sym b) e
        go Past e = never (s front ∙ ap (λ o. after o (found_operator front)) e)

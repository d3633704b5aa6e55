-- What is read of bytes is read of them behind others too.
use Rattle.std.proofs.Common.{◌≡◌, refl, sym, ap, subst, ◌∙◌, ℕ, ◌+◌, ◌-◌, ◌/◌, ◌==◌, nat_lt, if◌then◌else◌, Bool, true, false, List, [], ◌∷◌, ◌++◌, length, take, drop, Option, Some, None, length-append, arith}
use Rattle.std.proofs.Math.Seq.{drop-append_seam}
use Rattle.std.proofs.lemmas.List.{drop-drop}
use Rattle.std.specs.Prelude.{flat_map}
use Rattle.std.specs.List.{prefix_len}
use Rattle.postscript_base.specs.Refusal.{Refusal, malformed_number}
use Rattle.postscript_base.specs.Tape.Outcome.{Outcome, Got, Fault, Past, Reading, after, end, ◌>>=◌, pure, fault}
use Rattle.postscript_base.specs.Numbers.{slice, number as unsigned, big_endian, two_sided, small, above, below}
use Rattle.postscript_base.specs.Compact1.Decimal.{Decimal, operand_of}
use Rattle.postscript_base.specs.Compact1.Number.{begun, number, whole}
use Rattle.postscript_base.specs.Compact1.Reals.{Real, real_of, value_of}
use Rattle.postscript_base.specs.Compact1.Nibbles.{ended_by, end_nibble, is_in_text, nibbles, operand_if, real, symbols, text_of_real, valued}
use Rattle.postscript_base.specs.Compact1.Operation.{Operation, known, operator_begun}
use Rattle.postscript_base.specs.Compact1.Operators.{operator_of}
use Rattle.postscript_base.specs.Compact1.OperationLaw.{OperandsAt, OperationAt, operator}
use Rattle.postscript_base.specs.declared.compact1.operator.Operator.{Operator}

-- the outcome so many places on
abbrev pub moved : {A : Type 0} → ℕ → Outcome A → Outcome A
moved k (Got value next) = Got value (k + next)
moved k (Fault refusal) = Fault refusal
moved k Past = Past

-- behind other bytes the same is read, so many places on
abbrev pub IsMoved : {A : Type 0} → Reading A → Type 0
IsMoved reading =
    (front bytes : List ℕ) (place : ℕ) → reading (front ++ bytes) (length front + place) ≡ moved (length front) (reading bytes place)

pure_moved : {A : Type 0} (x : A) → IsMoved (pure x)
pure_moved x front bytes place = refl

fault_moved : {A : Type 0} (r : Refusal) → IsMoved {A = A} (fault r)
fault_moved r front bytes place = refl

after_moved : {A B : Type 0} (one : Reading A) (f : A → Reading B) → IsMoved one → ((x : A) → IsMoved (f x)) → IsMoved (one >>= f)
after_moved {A =
    A} {B = B} one f mo mf front bytes place = ap (λ o. after o (λ x m. f x (front ++ bytes) m)) (mo front bytes place)
    ∙ by (one bytes place)
  where
    by : (o : Outcome A) → after (moved (length front) o) (λ x m. f x (front ++ bytes) m) ≡ moved (length front)
        (after o (λ x m. f x bytes m))
    by (Got x m) = mf x front bytes m
    by (Fault r) = refl
    by Past = refl

if_moved : {A : Type 0} (b : Bool) (x y : Reading A) → IsMoved x → IsMoved y → IsMoved (if b then x else y)
if_moved true x y mx my = mx
if_moved false x y mx my = my

pub drop_moved : (front bytes : List ℕ) (place : ℕ) → drop (length front + place) (front ++ bytes) ≡ drop place bytes
drop_moved front bytes place =
    ap (λ n. drop n (front ++ bytes)) (omega arith) ∙ sym (drop-drop place (length front) (front ++ bytes))
    ∙ ap (drop place) (drop-append_seam front bytes)

slice_moved : (count : ℕ) → IsMoved (slice count)
unfolding slice
slice_moved count front bytes place =
    let left : length (front ++ bytes) - (length front + place) ≡ length bytes - place = omega (arith, length-append front bytes) in
    ap (λ n. if nat_lt n count then end else Got (take count (drop (length front + place) (front ++ bytes)))
    (length front + place + count)) left
    ∙ ap (λ xs. if nat_lt (length bytes - place) count then end else Got (take count xs) (length front + place + count))
    (drop_moved front bytes place)
    ∙ by (nat_lt (length bytes - place) count)
  where
    by : (b : Bool) → (if b then end else Got (take count (drop place bytes)) (length front + place + count)) ≡ moved (length front)
        (if b then end else Got (take count (drop place bytes)) (place + count))
    by true = refl
    by false = ap (λ n. Got (take count (drop place bytes)) n) (omega arith)

unsigned_moved : (size : ℕ) → IsMoved (unsigned size)
unfolding unsigned
unsigned_moved size =
    after_moved (slice size) (λ bytes. pure (big_endian bytes)) (slice_moved size) (λ bytes. pure_moved (big_endian bytes))

ended_moved : (rest text : List ℕ) (k n : ℕ) → ended_by rest text (k + n) ≡ moved k (ended_by rest text n)
ended_moved [] text k n = refl
ended_moved (nibble ∷ rest) text k n = by (nibble == end_nibble)
  where
    by : (b : Bool) → (if b then Got text (k + n) else Fault malformed_number) ≡ moved k (if b then Got text n else Fault malformed_number)
    by true = refl
    by false = refl

text_moved : IsMoved text_of_real
unfolding text_of_real
text_moved front bytes place =
    let all : List ℕ = nibbles (drop place bytes) in
    let count : ℕ = prefix_len is_in_text all in
    ap (λ xs. let n = prefix_len is_in_text (nibbles xs) in
    ended_by (drop n (nibbles xs)) (flat_map symbols (take n (nibbles xs))) (length front + place + (n / 2 + 1)))
    (drop_moved front bytes place)
    ∙ ap (λ n. ended_by (drop count all) (flat_map symbols (take count all)) n) (omega arith)
    ∙ ended_moved (drop count all) (flat_map symbols (take count all)) (length front) (place + (count / 2 + 1))

operand_moved : (o : Option Decimal) → IsMoved (operand_if o)
operand_moved None = fault_moved _
operand_moved (Some d) = pure_moved d

valued_moved : (r : Option Real) → IsMoved (valued r)
valued_moved None = fault_moved _
valued_moved (Some r) = operand_moved (operand_of (value_of r).mantissa (value_of r).exponent)

real_moved : IsMoved real
unfolding real
real_moved = after_moved text_of_real (λ text. valued (real_of text)) text_moved (λ text. valued_moved (real_of text))

of_moved : {A : Type 0} (size : ℕ) (f : ℕ → A) → IsMoved (unsigned size >>= λ n. pure (f n))
of_moved size f = after_moved (unsigned size) (λ n. pure (f n)) (unsigned_moved size) (λ n. pure_moved (f n))

begun_moved : (first : ℕ) → IsMoved (begun first)
begun_moved first =
    if_moved (first == 0x1c) _ _ (of_moved 2 (λ n. whole (two_sided 0x8000 n)))
    (if_moved (first == 0x1d) _ _ (of_moved 4 (λ n. whole (two_sided 0x80000000 n)))
    (if_moved (first == 0x1e) _ _ real_moved
    (if_moved (nat_lt first 0x20) _ _ (fault_moved _)
    (if_moved (nat_lt first 0xf7) _ _ (pure_moved (whole (small first)))
    (if_moved (nat_lt first 0xfb) _ _ (of_moved 1 (λ second. whole (above first second)))
    (if_moved (nat_lt first 0xff) _ _ (of_moved 1 (λ second. whole (below first second))) (fault_moved _)))))))

number_moved : IsMoved number
unfolding number
number_moved = after_moved (unsigned 1) begun (unsigned_moved 1) begun_moved

known_moved : (o : Option Operator) → IsMoved (known o)
known_moved None = fault_moved _
known_moved (Some o) = pure_moved o

operator_begun_moved : (first : ℕ) → IsMoved (operator_begun first)
operator_begun_moved first =
    if_moved (first == 0x0c) _ _
    (after_moved (unsigned 1) (λ second. known (operator_of (0x0c00 + second))) (unsigned_moved 1)
    (λ second. known_moved (operator_of (0x0c00 + second))))
    (known_moved (operator_of first))

operator_moved : IsMoved operator
operator_moved = after_moved (unsigned 1) operator_begun (unsigned_moved 1) operator_begun_moved

-- what is got so many places on is got here
got_back : {A : Type 0} (k next : ℕ) (value : A) (o : Outcome A) → Got value next ≡ moved k o → (n : ℕ) × (next ≡ k + n) × (o ≡ Got value n)
got_back k next value (Got x n) e = (n, cc, cc)
got_back k next value (Fault r) e = absurd (cc)
got_back k next value Past e = absurd (cc)

pub operands_moved : (front bytes : List ℕ) (place next : ℕ) (operands : List Decimal) → OperandsAt bytes place operands next →
    OperandsAt (front ++ bytes) (length front + place) operands (length front + next)
operands_moved front bytes place next [] h = ap (λ n. length front + n) h
operands_moved front bytes place next (operand ∷ operands) h =
    (length front + h.0, number_moved front bytes place ∙ ap (moved (length front)) h.1, operands_moved front bytes h.0 next operands h.2)

pub operation_moved : (front bytes : List ℕ) (place next : ℕ) (operation : Operation) → OperationAt bytes place operation next →
    OperationAt (front ++ bytes) (length front + place) operation (length front + next)
operation_moved front bytes place next operation h = (
  length front + h.0,
  operands_moved front bytes place h.0 operation.1 h.1,
  operator_moved front bytes h.0 ∙ ap (moved (length front)) h.2,
)

-- and the other way
operands_back : (front bytes : List ℕ) (place at : ℕ) (operands : List Decimal) → OperandsAt (front ++ bytes)
    (length front + place) operands at → (n : ℕ) × (at ≡ length front + n) × OperandsAt bytes place operands n
operands_back front bytes place at [] h = (place, h, refl)
operands_back front bytes place at (operand ∷ operands) h =
    let one = got_back (length front) h.0 operand (number bytes place) (sym h.1 ∙ number_moved front bytes place) in
    let rest = operands_back front bytes one.0 at operands (subst (λ p. OperandsAt (front ++ bytes) p operands at) one.1 h.2) in
    (rest.0, rest.1, (one.0, one.2, rest.2))

pub operation_back : (front bytes : List ℕ) (place at : ℕ) (operation : Operation) → OperationAt (front ++ bytes)
    (length front + place) operation at → (n : ℕ) × (at ≡ length front + n) × OperationAt bytes place operation n
operation_back front bytes place at operation h =
    let operands = operands_back front bytes place h.0 operation.1 h.1 in
    let last = got_back (length front) at operation.0 (operator bytes operands.0)
    (sym (subst (λ p. operator (front ++ bytes) p ≡ Got operation.0 at) operands.1 h.2) ∙ operator_moved front bytes operands.0) in
    (last.0, last.1, (operands.0, operands.2, last.2))

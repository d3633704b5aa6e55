-- What is written of operations is read back.
use Rattle.std.proofs.Common.{◌≡◌, refl, sym, ap, subst, ◌∙◌, ℕ, pos, ◌+◌, ◌*◌, ◌^◌, ◌<◌, ◌==◌, nat_lt, true, false, List, [], ◌∷◌, ◌++◌, length, length-append, arith}
use Rattle.std.proofs.lemmas.Bool.Decides.{nat_tests}
use Rattle.std.proofs.lemmas.List.{append-nil, append_assoc}
use Rattle.std.proofs.Math.Seq.{drop-length}
use Rattle.postscript_base.specs.Numbers.{number as unsigned, big_endian, two_sided}
use Rattle.postscript_base.specs.Tape.Outcome.{Got, after}
use Rattle.postscript_base.specs.Compact1.Dictionary.{dictionary_of}
use Rattle.postscript_base.specs.Compact1.DictionaryLaw.{IsDictionary, OperationsAt, is_cut}
use Rattle.postscript_base.specs.Compact1.OperationLaw.{OperandsAt, OperationAt, operator}
use Rattle.postscript_base.specs.Compact1.Number.{number, begun, whole}
use Rattle.postscript_base.specs.Compact1.Operation.{Operation, operator_begun, known}
use Rattle.postscript_base.specs.Compact1.Operators.{operator_of}
use Rattle.postscript_base.specs.declared.compact1.operator.Operator.{Operator}
use Rattle.postscript_base.proofs.DictionaryIs.{get_last}
use Rattle.postscript_compact1.specs.IndexAt.{NumberAt}
use Rattle.postscript_write.specs.Dictionaries.{integer_text, integers_text, operation_text, operands_of, escaped_text, AreHeld, IsCode, IsEscaped, WritesOperations}
use Rattle.postscript_write.specs.Texts.{number_text, TextStands}
use Rattle.postscript_write.proofs.Locality.{slice_is, operations_local}
use Rattle.postscript_write.proofs.Standing.{stands_amid, stands_first, stands_second, number_stands, length-number_text}

unsigned_is : (size n : ℕ) (bytes : List ℕ) (place : ℕ) → NumberAt bytes place size n → unsigned size bytes place ≡ Got n (place + size)
unfolding unsigned
unsigned_is size n bytes place h =
    ap (λ o. after o (λ bytes next. Got (big_endian bytes) next)) (slice_is size bytes place h.0) ∙ ap (λ n. Got n (place + size)) (sym h.1)

two_sided_is : (n : ℕ) → n < 2 ^ 31 → two_sided 0x80000000 n ≡ pos n
two_sided_is n h = let low : nat_lt n 0x80000000 ≡ true = grind (arith, nat_tests) in rw low refl

integer_is : {bytes : List ℕ} {place : ℕ} (n : ℕ) → n < 2 ^ 31 → TextStands (integer_text n) bytes place →
    number bytes place ≡ Got (whole (pos n)) (place + 5)
unfolding number
integer_is {bytes = bytes} {place = place} n small s =
    let first = unsigned_is 1 0x1d bytes place
    (number_stands 1 0x1d (omega arith) (stands_first (number_text 1 0x1d) (number_text 4 n) s)) in
    let there = subst (λ k. TextStands (number_text 4 n) bytes (place + k)) (length-number_text 1 0x1d)
    (stands_second (number_text 1 0x1d) (number_text 4 n) s) in
    let less : n < 2 ^ (8 * 4) = omega arith in
    let second = unsigned_is 4 n bytes (place + 1) (number_stands 4 n less there) in
    let five : place + 1 + 4 ≡ place + 5 = omega arith in
    ap (λ o. after o (λ first next. begun first bytes next)) first
    ∙ ap (λ o. after o (λ n next. Got (whole (two_sided 0x80000000 n)) next)) second
    ∙ ap (λ z. Got (whole z) (place + 1 + 4)) (two_sided_is n small)
    ∙ ap (λ k. Got (whole (pos n)) k) five

length-integer : (n : ℕ) → length (integer_text n) ≡ 5
length-integer n =
    let e = length-append (number_text 1 0x1d) (number_text 4 n) in let f = length-number_text 1 0x1d in let g = length-number_text 4 n in
    omega (arith, e, f, g)

integers_are : {bytes : List ℕ} (place : ℕ) (ns : List ℕ) → AreHeld ns → TextStands (integers_text ns) bytes place →
    OperandsAt bytes place (operands_of ns) (place + length (integers_text ns))
integers_are place [] held s = omega arith
integers_are {bytes = bytes} place (n ∷ ns) held s =
    let one = integer_is n held.0 (stands_first (integer_text n) (integers_text ns) s) in
    let five = length-integer n in
    let there = subst (λ k. TextStands (integers_text ns) bytes (place + k)) five (stands_second (integer_text n) (integers_text ns) s) in
    let rest = integers_are (place + 5) ns held.1 there in
    let long : length (integers_text (n ∷ ns)) ≡ 5 + length (integers_text ns) = length-append (integer_text n) (integers_text ns)
    ∙ ap (λ k. k + length (integers_text ns)) five in
    let on : place + 5 + length (integers_text ns) ≡ place + length (integers_text (n ∷ ns)) = omega (arith, long) in
    (place + 5, one, subst (λ k. OperandsAt bytes (place + 5) (operands_of ns) k) on rest)

operator_is : {bytes : List ℕ} {place : ℕ} (code : ℕ) (q : Operator) → IsCode code q → TextStands (number_text 1 code) bytes place →
    operator bytes place ≡ Got q (place + 1)
operator_is {bytes = bytes} {place = place} code q is s =
    let low : code < 2 ^ (8 * 1) = omega (arith, is.low) in
    let other : (code == 0x0c) ≡ false = let one = is.one in grind (arith, nat_tests) in
    ap (λ o. after o (λ first next. operator_begun first bytes next)) (unsigned_is 1 code bytes place (number_stands 1 code low s))
    ∙ rw (other, is.names) refl

escaped_is : {bytes : List ℕ} {place : ℕ} (second : ℕ) (q : Operator) → IsEscaped second q →
    TextStands (number_text 1 0x0c ++ number_text 1 second) bytes place → operator bytes place ≡ Got q (place + 2)
escaped_is {bytes = bytes} {place = place} second q is s =
    let low : second < 2 ^ (8 * 1) = omega (arith, is.low) in
    let there = subst (λ k. TextStands (number_text 1 second) bytes (place + k)) (length-number_text 1 0x0c)
    (stands_second (number_text 1 0x0c) (number_text 1 second) s) in
    let two : place + 1 + 1 ≡ place + 2 = omega arith in
    ap (λ o. after o (λ first next. operator_begun first bytes next))
    (unsigned_is 1 0x0c bytes place (number_stands 1 0x0c (omega arith) (stands_first (number_text 1 0x0c) (number_text 1 second) s)))
    ∙ ap (λ o. after o (λ second next. known (operator_of (0x0c00 + second)) bytes next))
    (unsigned_is 1 second bytes (place + 1) (number_stands 1 second low there))
    ∙ rw is.names (ap (λ k. Got q k) two)

pub integer_length : (n : ℕ) → length (integer_text n) ≡ 5
integer_length n = omega (arith, length-append (number_text 1 0x1d) (number_text 4 n), length-number_text 1 0x1d, length-number_text 4 n)

pub integers_length : (ns : List ℕ) → length (integers_text ns) ≡ 5 * length ns
integers_length [] = refl
integers_length (n ∷ ns) = omega (arith, length-append (integer_text n) (integers_text ns), integer_length n, integers_length ns)

pub longer : (old new text : List ℕ) → new ≡ old ++ text → length new ≡ length old + length text
longer old new text e = ap length e ∙ length-append old text

pub one_more : (bytes : List ℕ) (place : ℕ) (os : List Operation) (at : ℕ) (o : Operation) (next : ℕ) → OperationsAt bytes place os at →
    OperationAt bytes at o next → OperationsAt bytes place (os ++ o ∷ []) next
one_more bytes place [] at o next h one = (next, subst (λ p. OperationAt bytes p o next) h one, refl)
one_more bytes place (x ∷ os) at o next h one = (h.0, h.1, one_more bytes h.0 os at o next h.2 one)

append : (kept : List ℕ) (operations : List Operation) (numbers : List ℕ) (code : ℕ) (q : Operator) →
    OperationsAt kept 0 operations (length kept) → AreHeld numbers → IsCode code q →
    OperationsAt (kept ++ operation_text numbers code) 0 (operations ++ (q, operands_of numbers) ∷ [])
    (length (kept ++ operation_text numbers code))
append kept operations numbers code q are held is =
    let text : List ℕ = operation_text numbers code in
    let bytes : List ℕ = kept ++ text in
    let before = (operations_local kept [] text 0 (length kept) operations
    (subst (λ xs. OperationsAt xs 0 operations (length kept)) (sym (append-nil kept)) are) (omega arith)).1 in
    let s : TextStands text bytes (length kept) = subst (λ xs. TextStands text (kept ++ xs) (length kept)) (append-nil text)
    (stands_amid kept text []) in
    let operands = integers_are (length kept) numbers held (stands_first (integers_text numbers) (number_text 1 code) s) in
    let last = operator_is code q is (stands_second (integers_text numbers) (number_text 1 code) s) in
    let long : length kept + length (integers_text numbers) + 1 ≡ length bytes =
    (let e = length-append kept text in let f = length-append (integers_text numbers) (number_text 1 code) in
    let g = length-number_text 1 code in omega (arith, e, f, g)) in
    one_more bytes 0 operations (length kept) (q, operands_of numbers) (length bytes) before
    (length kept + length (integers_text numbers), operands, last ∙ ap (λ n. Got q n) long)

pub appended : (kept middle bytes : List ℕ) (numbers : List ℕ) (code : ℕ) (q : Operator) → AreHeld numbers → IsCode code q →
    middle ≡ kept ++ integers_text numbers → bytes ≡ middle ++ number_text 1 code →
    (operations : List Operation) → OperationsAt kept 0 operations (length kept) → OperationsAt bytes 0
    (operations ++ (q, operands_of numbers) ∷ []) (length bytes)
appended kept middle bytes numbers code q held is e f operations are =
    let whole : bytes ≡ kept ++ operation_text numbers code = f ∙ ap (λ xs. xs ++ number_text 1 code) e
    ∙ append_assoc kept (integers_text numbers) (number_text 1 code) in
    subst (λ xs. OperationsAt xs 0 (operations ++ (q, operands_of numbers) ∷ []) (length xs)) (sym whole)
    (append kept operations numbers code q are held is)

escaped : (kept : List ℕ) (operations : List Operation) (numbers : List ℕ) (second : ℕ) (q : Operator) →
    OperationsAt kept 0 operations (length kept) → AreHeld numbers → IsEscaped second q →
    OperationsAt (kept ++ escaped_text numbers second) 0 (operations ++ (q, operands_of numbers) ∷ [])
    (length (kept ++ escaped_text numbers second))
escaped kept operations numbers second q are held is =
    let code : List ℕ = number_text 1 0x0c ++ number_text 1 second in
    let text : List ℕ = escaped_text numbers second in
    let bytes : List ℕ = kept ++ text in
    let before = (operations_local kept [] text 0 (length kept) operations
    (subst (λ xs. OperationsAt xs 0 operations (length kept)) (sym (append-nil kept)) are) (omega arith)).1 in
    let s : TextStands text bytes (length kept) = subst (λ xs. TextStands text (kept ++ xs) (length kept)) (append-nil text)
    (stands_amid kept text []) in
    let operands = integers_are (length kept) numbers held (stands_first (integers_text numbers) code s) in
    let last = escaped_is second q is (stands_second (integers_text numbers) code s) in
    let long : length kept + length (integers_text numbers) + 2 ≡ length bytes =
    (let e = length-append kept text in let f = length-append (integers_text numbers) code in
    let g = length-append (number_text 1 0x0c) (number_text 1 second) in
    let h = length-number_text 1 0x0c in let i = length-number_text 1 second in omega (arith, e, f, g, h, i)) in
    one_more bytes 0 operations (length kept) (q, operands_of numbers) (length bytes) before
    (length kept + length (integers_text numbers), operands, last ∙ ap (λ n. Got q n) long)

pub appended_escaped : (kept middle first bytes : List ℕ) (numbers : List ℕ) (second : ℕ) (q : Operator) → AreHeld numbers →
    IsEscaped second q → middle ≡ kept ++ integers_text numbers →
    first ≡ middle ++ number_text 1 0x0c → bytes ≡ first ++ number_text 1 second →
    (operations : List Operation) → OperationsAt kept 0 operations (length kept) → OperationsAt bytes 0
    (operations ++ (q, operands_of numbers) ∷ []) (length bytes)
appended_escaped kept middle first bytes numbers second q held is e f g operations are =
    let whole : bytes ≡ kept ++ escaped_text numbers second =
    g ∙ ap (λ xs. xs ++ number_text 1 second) f ∙ append_assoc middle (number_text 1 0x0c) (number_text 1 second)
    ∙ ap (λ xs. xs ++ (number_text 1 0x0c ++ number_text 1 second)) e
    ∙ append_assoc kept (integers_text numbers) (number_text 1 0x0c ++ number_text 1 second) in
    subst (λ xs. OperationsAt xs 0 (operations ++ (q, operands_of numbers) ∷ []) (length xs)) (sym whole)
    (escaped kept operations numbers second q are held is)

all : (bytes : List ℕ) (operations : List Operation) → OperationsAt bytes 0 operations (length bytes) →
    IsDictionary bytes 0 (dictionary_of operations)
all bytes operations are = record {
  operations = operations;
  next = length bytes;
  are = are;
  rest = record { operands = []; next = length bytes; are = refl; cut = ap is_cut (drop-length bytes) };
  last = get_last operations;
}

pub writes_operations : WritesOperations
writes_operations = record { append = append; escaped = escaped; all = all }

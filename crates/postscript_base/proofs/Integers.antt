-- Integers are read exactly where they are spelled.
use Rattle.std.proofs.Common.{◌≡◌, refl, sym, ap, subst, ◌∙◌, ℕ, suc, ◌+◌, ◌<◌, ◌≤◌, ◌⊎◌, inl, inr, ℤ, pos, ◌-ℤ◌, Bool, true, false, ◌==◌, nat_lt, List, [], ◌∷◌, length, length-drop, length-take, take, drop, arith, if◌then◌else◌}
use Rattle.std.proofs.lemmas.Bool.Decides.{nat_tests}
use Rattle.std.proofs.lemmas.List.{drop-drop}
use Rattle.postscript_base.specs.Numbers.{slice, number as unsigned, big_endian, two_sided, small, above, below}
use Rattle.postscript_base.specs.Refusal.{malformed_number, unexpected_eof}
use Rattle.postscript_base.specs.Tape.Outcome.{Got, Fault, Reading, after, ◌>>=◌, pure, fault}
use Rattle.postscript_base.specs.Compact1.Decimal.{Decimal}
use Rattle.postscript_base.specs.Compact1.Integers as spellings
use Rattle.postscript_base.specs.Compact1.Integers.{IsInteger, IsIntegerAt, ReadsIntegers, StandAt}
use Rattle.postscript_base.specs.Compact1.Number.{begun, number, whole}
use Rattle.postscript_base.specs.Compact1.Nibbles.{real}
use Rattle.postscript_base.proofs.Nibbles.{byte_at, byte_none}

-- the number of so many bytes, and what is made of it
abbrev made : ℕ → (ℕ → Decimal) → Reading Decimal
made size f = unsigned size >>= λ n. pure (f n)

made_at : (size : ℕ) (f : ℕ → Decimal) (bytes xs : List ℕ) (place : ℕ) → length xs ≡ size → 0 < size → take size (drop place bytes) ≡ xs →
    made size f bytes place ≡ Got (f (big_endian xs)) (place + size)
unfolding unsigned slice
made_at size f bytes xs place many some e = grind (arith, length-take, length-drop, nat_tests)

record IsMade (size : ℕ) (f : ℕ → Decimal) (bytes : List ℕ) (place : ℕ) (operand : Decimal) (next : ℕ) : Type 0 where
  pub xs : List ℕ
  pub many : length xs ≡ size
  pub are : take size (drop place bytes) ≡ xs
  pub is : operand ≡ f (big_endian xs)
  pub behind : next ≡ place + size

is_made : (size : ℕ) (f : ℕ → Decimal) (bytes : List ℕ) (place : ℕ) (operand : Decimal) (next : ℕ) →
    made size f bytes place ≡ Got operand next → IsMade size f bytes place operand next
unfolding unsigned slice
is_made size f bytes place operand next e = grind (arith, length-take, length-drop, nat_tests)

-- which reading a first byte begins
abbrev of_small : ℕ → Decimal
of_small first = whole (small first)

-- the first byte of a spelling, and those behind it
record Front (bytes : List ℕ) (place first : ℕ) (xs : List ℕ) : Type 0 where
  pub is : number bytes place ≡ begun first bytes (place + 1)
  pub rest : take (length xs) (drop (place + 1) bytes) ≡ xs

front : (bytes : List ℕ) (place first : ℕ) (xs : List ℕ) → StandAt bytes place (first ∷ xs) → Front bytes place first xs
unfolding number
front bytes place first xs stands = by (drop place bytes) refl stands
  where
    by : (all : List ℕ) → all ≡ drop place bytes → take (suc (length xs)) all ≡ first ∷ xs → Front bytes place first xs
    by [] e h = absurd (cc)
    by (b ∷ rest) e h =
        let one : b ≡ first = cc in
        let others : take (length xs) rest ≡ xs = cc in
        let there : drop (place + 1) bytes ≡ rest = sym (drop-drop 1 place bytes) ∙ sym (ap (drop 1) e) in
        record {
          is =
              ap (λ o. after o (λ first at. begun first bytes at)) (byte_at bytes rest place b e) ∙ ap (λ b. begun b bytes (place + 1)) one;
          rest = ap (take (length xs)) there ∙ others;
        }

all : (bytes : List ℕ) (place : ℕ) (spelling : List ℕ) (value : ℤ) → IsInteger spelling value → StandAt bytes place spelling →
    number bytes place ≡ Got (whole value) (place + length spelling)
unfolding unsigned slice number
all bytes place spelling value (spellings.small first low high) stands = grind (arith, drop-drop, byte_at, nat_tests)
all bytes place spelling value (spellings.positive first second low high) stands =
    let f = front bytes place first (second ∷ []) stands in
    let n : big_endian (second ∷ []) ≡ second = omega arith in
    let at : place + 1 + 1 ≡ place + 2 = omega arith in
    f.is ∙ (grind (arith, nat_tests))
    ∙ made_at 1 (λ second. whole (above first second)) bytes (second ∷ []) (place + 1) refl (omega arith) f.rest
    ∙ ap (λ s. Got (whole (above first s)) (place + 1 + 1)) n ∙ ap (Got (whole (above first second))) at
all bytes place spelling value (spellings.negative first second low high) stands =
    let f = front bytes place first (second ∷ []) stands in
    let n : big_endian (second ∷ []) ≡ second = omega arith in
    let at : place + 1 + 1 ≡ place + 2 = omega arith in
    f.is ∙ (grind (arith, nat_tests))
    ∙ made_at 1 (λ second. whole (below first second)) bytes (second ∷ []) (place + 1) refl (omega arith) f.rest
    ∙ ap (λ s. Got (whole (below first s)) (place + 1 + 1)) n ∙ ap (Got (whole (below first second))) at
all bytes place spelling value (spellings.of_two_bytes a b) stands =
    let f = front bytes place 0x1c (a ∷ b ∷ []) stands in
    let at : place + 1 + 2 ≡ place + 3 = omega arith in
    f.is ∙ made_at 2 (λ n. whole (two_sided 0x8000 n)) bytes (a ∷ b ∷ []) (place + 1) refl (omega arith) f.rest
    ∙ ap (Got (whole (two_sided 0x8000 (big_endian (a ∷ b ∷ []))))) at
all bytes place spelling value (spellings.of_four_bytes a b c d) stands =
    let f = front bytes place 0x1d (a ∷ b ∷ c ∷ d ∷ []) stands in
    let at : place + 1 + 4 ≡ place + 5 = omega arith in
    f.is ∙ made_at 4 (λ n. whole (two_sided 0x80000000 n)) bytes (a ∷ b ∷ c ∷ d ∷ []) (place + 1) refl (omega arith) f.rest
    ∙ ap (Got (whole (two_sided 0x80000000 (big_endian (a ∷ b ∷ c ∷ d ∷ []))))) at

-- what was read, by its first byte
record IsRead (bytes : List ℕ) (place first : ℕ) (operand : Decimal) (next : ℕ) : Type 0 where
  pub xs : List ℕ
  pub value : ℤ
  pub is : IsInteger (first ∷ xs) value
  pub stand : take (length xs) (drop place bytes) ≡ xs
  pub same : operand ≡ whole value
  pub behind : next ≡ place + length xs

one_above : (bytes : List ℕ) (place first : ℕ) (operand : Decimal) (next : ℕ) → 0xf7 ≤ first → first < 0xfb →
    IsMade 1 (λ second. whole (above first second)) bytes place operand next → IsRead bytes place first operand next
one_above bytes place first operand next low high m = by m.xs m.many m.are m.is
  where
    by : (xs : List ℕ) → length xs ≡ 1 → take 1 (drop place bytes) ≡ xs → operand ≡ whole (above first (big_endian xs)) →
        IsRead bytes place first operand next
    by [] many are is = absurd (cc)
    by (s ∷ []) many are is =
        let n : big_endian (s ∷ []) ≡ s = omega arith in
        record {
          xs =
              s ∷ [];
          value = above first s;
          is = spellings.positive first s low high;
          stand = are;
          same = is ∙ ap (λ s. whole (above first s)) n;
          behind = m.behind;
        }
    by (s ∷ t ∷ xs) many are is = absurd (omega arith)

one_below : (bytes : List ℕ) (place first : ℕ) (operand : Decimal) (next : ℕ) → 0xfb ≤ first → first < 0xff →
    IsMade 1 (λ second. whole (below first second)) bytes place operand next → IsRead bytes place first operand next
one_below bytes place first operand next low high m = by m.xs m.many m.are m.is
  where
    by : (xs : List ℕ) → length xs ≡ 1 → take 1 (drop place bytes) ≡ xs → operand ≡ whole (below first (big_endian xs)) →
        IsRead bytes place first operand next
    by [] many are is = absurd (cc)
    by (s ∷ []) many are is =
        let n : big_endian (s ∷ []) ≡ s = omega arith in
        record {
          xs =
              s ∷ [];
          value = below first s;
          is = spellings.negative first s low high;
          stand = are;
          same = is ∙ ap (λ s. whole (below first s)) n;
          behind = m.behind;
        }
    by (s ∷ t ∷ xs) many are is = absurd (omega arith)

two : (bytes : List ℕ) (place : ℕ) (operand : Decimal) (next : ℕ) → IsMade 2 (λ n. whole (two_sided 0x8000 n)) bytes place operand next →
    IsRead bytes place 0x1c operand next
two bytes place operand next m = by m.xs m.many m.are m.is
  where
    by : (xs : List ℕ) → length xs ≡ 2 → take 2 (drop place bytes) ≡ xs → operand ≡ whole (two_sided 0x8000 (big_endian xs)) →
        IsRead bytes place 0x1c operand next
    by [] many are is = absurd (omega arith)
    by (a ∷ []) many are is = absurd (omega arith)
    by (a ∷ b ∷ []) many are is =
        record {
          xs = a ∷ b ∷ [];
          value = two_sided 0x8000 (big_endian (a ∷ b ∷ []));
          is = spellings.of_two_bytes a b;
          stand = are;
          same = is;
          behind = m.behind;
        }
    by (a ∷ b ∷ c ∷ xs) many are is = absurd (omega arith)

four : (bytes : List ℕ) (place : ℕ) (operand : Decimal) (next : ℕ) →
    IsMade 4 (λ n. whole (two_sided 0x80000000 n)) bytes place operand next → IsRead bytes place 0x1d operand next
four bytes place operand next m = by m.xs m.many m.are m.is
  where
    by : (xs : List ℕ) → length xs ≡ 4 → take 4 (drop place bytes) ≡ xs → operand ≡ whole (two_sided 0x80000000 (big_endian xs)) →
        IsRead bytes place 0x1d operand next
    by [] many are is = absurd (omega arith)
    by (a ∷ []) many are is = absurd (omega arith)
    by (a ∷ b ∷ []) many are is = absurd (omega arith)
    by (a ∷ b ∷ c ∷ []) many are is = absurd (omega arith)
    by (a ∷ b ∷ c ∷ d ∷ []) many are is =
        record {
          xs =
              a ∷ b ∷ c ∷ d ∷ [];
          value = two_sided 0x80000000 (big_endian (a ∷ b ∷ c ∷ d ∷ []));
          is = spellings.of_four_bytes a b c d;
          stand = are;
          same = is;
          behind = m.behind;
        }
    by (a ∷ b ∷ c ∷ d ∷ e ∷ xs) many are is = absurd (omega arith)

-- behind a first byte: that of a real, or what an integer has there
begun_is : (first : ℕ) (bytes : List ℕ) (place : ℕ) (operand : Decimal) (next : ℕ) → begun first bytes place ≡ Got operand next →
    (first ≡ 0x1e) ⊎ IsRead bytes place first operand next
begun_is first bytes place operand next e =
    by (first == 0x1c) (first == 0x1d) (first == 0x1e) (nat_lt first 0x20) (nat_lt first 0xf7) (nat_lt first 0xfb)
    (nat_lt first 0xff) refl refl refl refl refl refl refl e
  where
    by : (a b c d l m n : Bool) → (first == 0x1c) ≡ a → (first == 0x1d) ≡ b → (first == 0x1e) ≡ c → nat_lt first 0x20 ≡ d →
        nat_lt first 0xf7 ≡ l → nat_lt first 0xfb ≡ m → nat_lt first 0xff ≡ n
        → (if a then made 2 (λ n. whole (two_sided 0x8000 n))
        else if b then made 4 (λ n. whole (two_sided 0x80000000 n))
        else if c then real
        else if d then fault malformed_number
        else if l then pure (whole (small first))
        else if m then made 1 (λ second. whole (above first second))
        else if n then made 1 (λ second. whole (below first second))
        else fault malformed_number) bytes place ≡ Got operand next
        → (first ≡ 0x1e) ⊎ IsRead bytes place first operand next
    by true b c d l m n t1 t2 t3 t4 t5 t6 t7 got =
        let is : 0x1c ≡ first = grind (arith, nat_tests) in
        inr (subst (λ f. IsRead bytes place f operand next) is (two bytes place operand next (is_made 2 _ bytes place operand next got)))
    by false true c d l m n t1 t2 t3 t4 t5 t6 t7 got =
        let is : 0x1d ≡ first = grind (arith, nat_tests) in
        inr (subst (λ f. IsRead bytes place f operand next) is (four bytes place operand next (is_made 4 _ bytes place operand next got)))
    by false false true d l m n t1 t2 t3 t4 t5 t6 t7 got = inl (grind (arith, nat_tests))
    by false false false true l m n t1 t2 t3 t4 t5 t6 t7 got = absurd (cc)
    by false false false false true m n t1 t2 t3 t4 t5 t6 t7 got =
        let at : next ≡ place = cc in
        inr (record {
          xs = [];
          value = pos first -ℤ pos 139;
          is = spellings.small first (grind (arith, nat_tests)) (grind (arith, nat_tests));
          stand = refl;
          same = cc;
          behind = omega arith;
        })
    by false false false false false true n t1 t2 t3 t4 t5 t6 t7 got =
        inr (one_above bytes place first operand next (grind (arith, nat_tests)) (grind (arith, nat_tests))
        (is_made 1 _ bytes place operand next got))
    by false false false false false false true t1 t2 t3 t4 t5 t6 t7 got =
        inr (one_below bytes place first operand next (grind (arith, nat_tests)) (grind (arith, nat_tests))
        (is_made 1 _ bytes place operand next got))
    by false false false false false false false t1 t2 t3 t4 t5 t6 t7 got = absurd (cc)

only : (bytes : List ℕ) (place : ℕ) (operand : Decimal) (next : ℕ) → number bytes place ≡ Got operand next →
    StandAt bytes place (0x1e ∷ []) ⊎ IsIntegerAt bytes place operand next
unfolding number
only bytes place operand next e = by (drop place bytes) refl
  where
    read : (first : ℕ) (rest : List ℕ) → first ∷ rest ≡ drop place bytes → (first ≡ 0x1e) ⊎ IsRead bytes (place + 1) first operand next →
        StandAt bytes place (0x1e ∷ []) ⊎ IsIntegerAt bytes place operand next
    read first rest h (inl is) = inl (ap (take 1) (sym h) ∙ ap (λ f. f ∷ []) is)
    read first rest h (inr r) =
        let there : drop (place + 1) bytes ≡ rest = sym (drop-drop 1 place bytes) ∙ sym (ap (drop 1) h) in
        let behind = r.behind in
        inr (record {
          spelling = first ∷ r.xs;
          value = r.value;
          is = r.is;
          stands = ap (take (suc (length r.xs))) (sym h) ∙ ap (λ xs. first ∷ xs) (ap (take (length r.xs)) (sym there) ∙ r.stand);
          same = r.same;
          behind = omega arith;
        })

    by : (rest : List ℕ) → rest ≡ drop place bytes → StandAt bytes place (0x1e ∷ []) ⊎ IsIntegerAt bytes place operand next
    by [] h =
        let none : Fault unexpected_eof ≡ Got operand next = sym
        (ap (λ o. after o (λ first at. begun first bytes at)) (byte_none bytes place h)) ∙ e in absurd (cc)
    by (first ∷ rest) h =
        read first rest h (begun_is first bytes (place + 1) operand next
        (sym (ap (λ o. after o (λ first at. begun first bytes at)) (byte_at bytes rest place first h)) ∙ e))

pub reads_integers : ReadsIntegers
reads_integers = grind (arith, all, only)

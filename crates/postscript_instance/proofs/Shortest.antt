-- What is written of a number spells it.
use Rattle.std.proofs.Common.{◌≡◌, refl, ap, sym, subst, ◌∙◌, ℕ, suc, ◌+◌, ◌-◌, ◌/◌, ◌%◌, ◌<◌, ◌≤◌, ◌⊎◌, inl, inr, ℤ, pos, negsuc, neg_ℤ, ◌+ℤ◌, ◌-ℤ◌, ◌*ℤ◌, ◌≤ℤ◌, ◌<ℤ◌, unsigned_abs, int_div, int_rem, Bool, true, false, cond, List, [], ◌∷◌, length, Some, None, All, arith}
use Rattle.std.proofs.lemmas.Bool.Decides.{nat_tests, Decides-int_eq}
use Rattle.std.proofs.lemmas.Bool.{cases_lt}
use Rattle.std.proofs.lemmas.Int.{ints, quot-rem, rem_below}
use Rattle.std.specs.Ordering.{int_eq}
use Rattle.postscript_base.specs.Numbers.{big_endian, two_sided, above, below}
use Rattle.postscript_type2.specs.Number.{whole}
use Rattle.postscript_type2.specs.Program.StackRules.{IsHeld}
use Rattle.postscript_type2.specs.Program.Phrases.{IsNumber, of_two_bytes, small, positive, negative, of_bits}
use Rattle.postscript_instance.specs.Laws.{NumbersAreShortest}
use Rattle.postscript_instance.specs.Numbers.{pair, two_bytes, four_bytes, whole_above, whole_below, whole_text, bits_text, text_by, number_text}

-- the spellings of whole numbers
small-is : (first : ℕ) (n : ℤ) → 32 ≤ first → first < 247 → pos first -ℤ pos 139 ≡ n → IsNumber (first ∷ []) (whole n)
small-is first n low high is = subst (λ m. IsNumber (first ∷ []) (whole m)) is (small first low high)

positive-is : (first second : ℕ) (n : ℤ) → 247 ≤ first → first < 251 → above first second ≡ n → IsNumber (first ∷ second ∷ []) (whole n)
positive-is first second n low high is = subst (λ m. IsNumber (first ∷ second ∷ []) (whole m)) is (positive first second low high)

negative-is : (first second : ℕ) (n : ℤ) → 251 ≤ first → first < 255 → below first second ≡ n → IsNumber (first ∷ second ∷ []) (whole n)
negative-is first second n low high is = subst (λ m. IsNumber (first ∷ second ∷ []) (whole m)) is (negative first second low high)

word-value : (n : ℕ) → big_endian (two_bytes n) ≡ n
word-value n = omega arith

word-is : (w : ℕ) (n : ℤ) → two_sided 32768 w ≡ n → IsNumber (0x1c ∷ two_bytes w) (whole n)
word-is w n is =
    subst (λ m. IsNumber (0x1c ∷ two_bytes w) (whole m)) (ap (two_sided 32768) (word-value w) ∙ is) (of_two_bytes (w / 256) (w % 256))

-- which of them is taken
above-small : (n : ℕ) → n < 108 → whole_above n ≡ (139 + n) ∷ []
above-small n h = grind (arith, nat_tests)

above-pair : (n : ℕ) → 108 ≤ n → n < 1132 → whole_above n ≡ pair 247 (n - 108)
above-pair n low high = grind (arith, nat_tests)

above-word : (n : ℕ) → 1132 ≤ n → whole_above n ≡ 0x1c ∷ two_bytes n
above-word n low = grind (arith, nat_tests)

below-small : (n : ℕ) → n < 108 → whole_below n ≡ (139 - n) ∷ []
below-small n h = grind (arith, nat_tests)

below-pair : (n : ℕ) → 108 ≤ n → n < 1132 → whole_below n ≡ pair 251 (n - 108)
below-pair n low high = grind (arith, nat_tests)

below-word : (n : ℕ) → 1132 ≤ n → whole_below n ≡ 0x1c ∷ two_bytes (65536 - n)
below-word n low = grind (arith, nat_tests)

word-low : (n : ℕ) → n < 32768 → two_sided 32768 n ≡ pos n
word-low n h = grind (arith, nat_tests)

word-high : (n : ℕ) → 0 < n → n ≤ 32768 → two_sided 32768 (65536 - n) ≡ pos 0 -ℤ pos n
word-high n some h = grind (arith, nat_tests, ints)

above-spells : (n : ℕ) → n < 32768 → IsNumber (whole_above n) (whole (pos n))
above-spells n fits = by (cases_lt n 108) (cases_lt n 1132)
  where
    by : (n < 108) ⊎ (108 ≤ n) → (n < 1132) ⊎ (1132 ≤ n) → IsNumber (whole_above n) (whole (pos n))
    by (inl few) many =
        subst (λ bytes. IsNumber bytes (whole (pos n))) (sym (above-small n few))
        (small-is (139 + n) (pos n) (omega arith) (omega arith) (omega (arith, ints)))
    by (inr low) (inl high) = subst (λ bytes. IsNumber bytes (whole (pos n))) (sym (above-pair n low high))
        (positive-is (247 + (n - 108) / 256) ((n - 108) % 256) (pos n) (omega arith) (omega arith) (omega (arith, ints)))
    by (inr low) (inr many) =
        subst (λ bytes. IsNumber bytes (whole (pos n))) (sym (above-word n many)) (word-is n (pos n) (word-low n fits))

below-spells : (n : ℕ) → 0 < n → n ≤ 32768 → IsNumber (whole_below n) (whole (pos 0 -ℤ pos n))
below-spells n some fits = by (cases_lt n 108) (cases_lt n 1132)
  where
    by : (n < 108) ⊎ (108 ≤ n) → (n < 1132) ⊎ (1132 ≤ n) → IsNumber (whole_below n) (whole (pos 0 -ℤ pos n))
    by (inl few) many =
        subst (λ bytes. IsNumber bytes (whole (pos 0 -ℤ pos n))) (sym (below-small n few))
        (small-is (139 - n) (pos 0 -ℤ pos n) (omega arith) (omega arith) (omega (arith, ints)))
    by (inr low) (inl high) = subst (λ bytes. IsNumber bytes (whole (pos 0 -ℤ pos n))) (sym (below-pair n low high))
        (negative-is (251 + (n - 108) / 256) ((n - 108) % 256) (pos 0 -ℤ pos n) (omega arith) (omega arith) (omega (arith, ints)))
    by (inr low) (inr many) =
        subst (λ bytes. IsNumber bytes (whole (pos 0 -ℤ pos n))) (sym (below-word n many))
        (word-is (65536 - n) (pos 0 -ℤ pos n) (word-high n some fits))

whole-spells : (n : ℤ) → neg_ℤ (pos 32768) ≤ℤ n → n <ℤ pos 32768 → IsNumber (whole_text n) (whole n)
whole-spells (pos n) low high = subst (λ bytes. IsNumber bytes (whole (pos n))) (is n) (above-spells n (omega (arith, ints, high)))
  where
    is : (n : ℕ) → whole_above n ≡ whole_text (pos n)
    is n = grind (arith, ints)
whole-spells (negsuc n) low high =
    subst (λ bytes. IsNumber bytes (whole (negsuc n))) (is n)
    (subst (λ m. IsNumber (whole_below (suc n)) (whole m)) (value n) (below-spells (suc n) (omega arith) (omega (arith, ints, low))))
  where
    is : (n : ℕ) → whole_below (suc n) ≡ whole_text (negsuc n)
    is n = grind (arith, ints)

    value : (n : ℕ) → pos 0 -ℤ pos (suc n) ≡ negsuc n
    value n = omega (arith, ints)

-- any other number, by its bits
long-value : (n : ℕ) → big_endian (four_bytes n) ≡ n
long-value n = omega arith

long-is : (w : ℕ) (bits : ℤ) → two_sided 2147483648 w ≡ bits → IsNumber (0xff ∷ four_bytes w) bits
long-is w bits is =
    subst (λ x. IsNumber (0xff ∷ four_bytes w) x) (ap (two_sided 2147483648) (long-value w) ∙ is)
    (of_bits 0xff (w / 16777216) (w / 65536 % 256) (w / 256 % 256) (w % 256) (omega arith))

bits-spells : (bits : ℤ) → IsHeld bits → IsNumber (bits_text bits) bits
bits-spells (pos n) held = subst (λ bytes. IsNumber bytes (pos n)) (is n) (long-is n (pos n) (value n (omega (arith, ints, held.high))))
  where
    is : (n : ℕ) → 0xff ∷ four_bytes n ≡ bits_text (pos n)
    is n = grind (arith, ints)

    value : (n : ℕ) → n < 2147483648 → two_sided 2147483648 n ≡ pos n
    value n h = grind (arith, nat_tests)
bits-spells (negsuc n) held =
    subst (λ bytes. IsNumber bytes (negsuc n)) (is n) (long-is (4294967295 - n) (negsuc n) (value n (omega (arith, ints, held.low))))
  where
    is : (n : ℕ) → 0xff ∷ four_bytes (4294967295 - n) ≡ bits_text (negsuc n)
    is n = grind (arith, ints)

    value : (n : ℕ) → n < 2147483648 → two_sided 2147483648 (4294967295 - n) ≡ negsuc n
    value n h = grind (arith, nat_tests, ints)

-- a number that 65536 divides is a whole one
whole-of : (bits : ℤ) → int_eq (int_rem bits (pos 65536)) (pos 0) ≡ true → whole (int_div bits (pos 65536)) ≡ bits
whole-of bits h =
    let none : int_rem bits (pos 65536) ≡ pos 0 = zero (int_rem bits (pos 65536)) h in
    let all = quot-rem bits (pos 65536) in
    omega (arith, ints, none, all)
  where
    zero : (x : ℤ) → int_eq x (pos 0) ≡ true → x ≡ pos 0
    zero x h = grind (arith, Decides-int_eq)

in-range : (bits n : ℤ) → IsHeld bits → whole n ≡ bits → (neg_ℤ (pos 32768) ≤ℤ n) × (n <ℤ pos 32768)
in-range bits n held is =
    let low = held.low in let high = held.high in (omega (arith, ints, is, low, high), omega (arith, ints, is, low, high))

pub spells : (bits : ℤ) → IsHeld bits → IsNumber (number_text bits) bits
spells bits held = by (int_eq (int_rem bits (pos 65536)) (pos 0)) refl
  where
    by : (b : Bool) → int_eq (int_rem bits (pos 65536)) (pos 0) ≡ b →
        IsNumber (text_by bits (cond b (Some (int_div bits (pos 65536))) None)) bits
    by true is =
        let n = int_div bits (pos 65536) in
        let same = whole-of bits is in
        let range = in-range bits n held same in
        subst (λ x. IsNumber (whole_text n) x) same (whole-spells n range.0 range.1)
    by false is = bits-spells bits held

-- how long a spelling is, by what it spells
data Class (other : List ℕ) (bits : ℤ) : Type 0 where
  one : (n : ℤ) → bits ≡ whole n → 1 ≤ length other → neg_ℤ (pos 107) ≤ℤ n → n ≤ℤ pos 107 → Class other bits
  two : (n : ℤ) → bits ≡ whole n → 2 ≤ length other → neg_ℤ (pos 1131) ≤ℤ n → n ≤ℤ pos 1131 → Class other bits
  three : (n : ℤ) → bits ≡ whole n → 3 ≤ length other → Class other bits
  five : 5 ≤ length other → Class other bits

class : {other : List ℕ} {bits : ℤ} → IsNumber other bits → All (λ byte. byte < 256) other → Class other bits
class (of_two_bytes a b) bytes = three (two_sided 0x8000 (big_endian (a ∷ b ∷ []))) refl (omega arith)
class (small first low high) bytes = one (pos first -ℤ pos 139) refl (omega arith) (omega (arith, ints, low)) (omega (arith, ints, high))
class (positive first second low high) bytes =
    let less : second < 256 = bytes 1 0 (omega arith) in
    two (above first second) refl (omega arith) (omega (arith, ints, low, high)) (omega (arith, ints, low, high, less))
class (negative first second low high) bytes =
    let less : second < 256 = bytes 1 0 (omega arith) in
    two (below first second) refl (omega arith) (omega (arith, ints, low, high, less)) (omega (arith, ints, low, high))
class (of_bits first a b c d low) bytes = five (omega arith)

short-one : (n : ℤ) → neg_ℤ (pos 107) ≤ℤ n → n ≤ℤ pos 107 → length (whole_text n) ≤ 1
short-one (pos n) low high = grind (arith, nat_tests, ints)
short-one (negsuc n) low high = grind (arith, nat_tests, ints)

short-two : (n : ℤ) → neg_ℤ (pos 1131) ≤ℤ n → n ≤ℤ pos 1131 → length (whole_text n) ≤ 2
short-two (pos n) low high = grind (arith, nat_tests, ints)
short-two (negsuc n) low high = grind (arith, nat_tests, ints)

short-three : (n : ℤ) → length (whole_text n) ≤ 3
short-three (pos n) = grind (arith, nat_tests, ints)
short-three (negsuc n) = grind (arith, nat_tests, ints)

whole-same : (n m : ℤ) → whole n ≡ whole m → n ≡ m
whole-same n m h = omega (arith, ints, h)

-- the bits of a whole number are divided by 65536
divided : (bits n : ℤ) → bits ≡ whole n → int_eq (int_rem bits (pos 65536)) (pos 0) ≡ false → ⊥
divided bits n is other =
    let r = int_rem bits (pos 65536) in
    let all = quot-rem bits (pos 65536) in
    let low = rem_below bits (pos 65536) (omega arith) in
    let none : r ≡ pos 0 = zero r (int_div bits (pos 65536)) n (all ∙ is) low in
    differ r other none
  where
    zero : (r q n : ℤ) → q *ℤ pos 65536 +ℤ r ≡ n *ℤ pos 65536 → unsigned_abs r < 65536 → r ≡ pos 0
    zero (pos r) q n h low = omega (arith, ints, h, low)
    zero (negsuc r) q n h low = absurd (omega (arith, ints, h, low))

    differ : (r : ℤ) → int_eq r (pos 0) ≡ false → r ≡ pos 0 → ⊥
    differ r other is = grind (arith, Decides-int_eq)

least : (bits : ℤ) (other : List ℕ) → All (λ byte. byte < 256) other → IsNumber other bits → length (number_text bits) ≤ length other
least bits other bytes spelled = by (int_eq (int_rem bits (pos 65536)) (pos 0)) refl (class spelled bytes)
  where
    by : (b : Bool) → int_eq (int_rem bits (pos 65536)) (pos 0) ≡ b → Class other bits →
        length (text_by bits (cond b (Some (int_div bits (pos 65536))) None)) ≤ length other
    by true is (one n e long low high) =
        let same : int_div bits (pos 65536) ≡ n = whole-same _ n (whole-of bits is ∙ e) in
        let short = short-one n low high in
        rw same (omega (arith, short, long))
    by true is (two n e long low high) =
        let same : int_div bits (pos 65536) ≡ n = whole-same _ n (whole-of bits is ∙ e) in
        let short = short-two n low high in
        rw same (omega (arith, short, long))
    by true is (three n e long) = let short = short-three (int_div bits (pos 65536)) in omega (arith, short, long)
    by true is (five long) = let short = short-three (int_div bits (pos 65536)) in omega (arith, short, long)
    by false is (one n e long low high) = absurd (divided bits n e is)
    by false is (two n e long low high) = absurd (divided bits n e is)
    by false is (three n e long) = absurd (divided bits n e is)
    by false is (five long) = long

pub law : NumbersAreShortest
law bits held = record { is = spells bits held; least = λ other. least bits other }

-- The operand of a value, and the whole number, as functions.
use Rattle.std.proofs.Common.{◌≡◌, ◌≢◌, ◌⊎◌, inl, inr, refl, sym, ap, subst, ◌∙◌, ⊎_elim, ℕ, zero, suc, ◌-◌, ◌*◌, ◌/◌, ◌%◌, ◌^◌, ◌<◌, ◌≤◌, ◌==◌, Bool, true, false, Option, Some, None, ℤ, pos, negsuc, ◌-ℤ◌, ◌≤ℤ◌, ◌<ℤ◌, arith, if◌then◌else◌}
use Rattle.std.specs.Prelude.{IfSome, IfNone, int_lt}
use Rattle.std.specs.Int.{int_min}
use Rattle.std.specs.Int.RustNames.{unsigned_abs}
use Rattle.std.proofs.Math.Nat.{pow-suc, pow-le-pow_right, mul_assoc, mul-le-mul}
use Rattle.std.proofs.lemmas.Bool.{eqb-true, eqb-false}
use Rattle.std.proofs.lemmas.Bool.Decides.{eqb_tells}
use Rattle.std.proofs.lemmas.Int.{ints, clamps, by_lt_z}
use Rattle.postscript_base.specs.Compact1.Decimal.{Decimal, HasOperand, IsOperand, IsCanonical, IsOf32Bits, IsSameValue, canonical, is_in_range, operand_of, scaled, to_i32, one_zero_more, without_zeros, FindsOperands, IsOperandOf}
use Rattle.postscript_base.proofs.Decimals.{abs-scaled, abs-signed, last_zero, IsSameValue-sym, IsSameValue-trans, meets-IsSameValue, one_form, same_decimal, stripped_canonical, stripped_same, tens_few, tens_pos, zero_abs}

record Strips (n : ℕ) (found : ℕ × ℕ) : Type 0 where
  whole : n ≡ found.0 * 10 ^ found.1
  last : found.0 % 10 ≢ 0

strips : (digits n : ℕ) → 0 < n → n ≤ digits → Strips n (without_zeros digits n)
unfolding without_zeros
strips zero n p h = absurd (omega arith)
strips (suc digits) n p h = strips_by (n % 10 == 0) refl (λ last. strips digits (n / 10) (omega arith) (omega arith))
  where
    strips_by : (t : Bool) → (n % 10 == 0) ≡ t → (n % 10 ≡ 0 → Strips (n / 10) (without_zeros digits (n / 10))) →
        Strips n (if t then one_zero_more (without_zeros digits (n / 10)) else (n, 0))
    strips_by true t more =
        let zero_last : n % 10 ≡ 0 = eqb-true _ _ t in
        let r = more zero_last in
        let found = without_zeros digits (n / 10) in
        let tens : n ≡ n / 10 * 10 = omega arith in
        record {
          whole =
              tens ∙ ap (λ k. k * 10) r.whole ∙ mul_assoc found.0 (10 ^ found.1) 10 ∙ ap (λ k. found.0 * k) (sym (pow-suc 10 found.1));
          last = r.last;
        }
    strips_by false t more = record { whole = omega arith; last = eqb-false _ _ t }

-- what is left to find: an operand of the value, or that there is none
pub record Finds (found : Option Decimal) (m e : ℤ) : Type 0 where
  pub some : IfSome found (λ o. HasOperand o × IsSameValue o.mantissa o.exponent m e)
  pub none : IfNone found ((n f : ℤ) → IsOperand n f → IsSameValue n f m e → ⊥)

pub found_once : (r s : Option Decimal) (m e : ℤ) → Finds r m e → Finds s m e → r ≡ s
found_once (Some a) (Some b) m e p q =
    let f = p.some in
    let g = q.some in
    let one = one_form a.mantissa a.exponent b.mantissa b.exponent f.0.canonical g.0.canonical
    (IsSameValue-trans a.mantissa a.exponent m e b.mantissa b.exponent f.1 (IsSameValue-sym b.mantissa b.exponent m e g.1)) in
    ap Some (same_decimal a b one.0 one.1)
found_once (Some a) None m e p q = let f = p.some in absurd (q.none a.mantissa a.exponent f.0 f.1)
found_once None (Some b) m e p q = let g = q.some in absurd (p.none b.mantissa b.exponent g.0 g.1)
found_once None None m e p q = refl

record IsFormOf (m e : ℤ) (d : Decimal) : Type 0 where
  form : IsCanonical d.mantissa d.exponent
  value : IsSameValue d.mantissa d.exponent m e

zero_form : (m e : ℤ) → m ≡ pos 0 → IsFormOf m e (record { mantissa = pos 0; exponent = pos 0 })
zero_form m e h = grind arith

canonical_form : (m e : ℤ) → IsFormOf m e (canonical m e)
unfolding canonical
canonical_form m e = elim (eqb_tells (unsigned_abs m) 0) [
  | inl t ↦ rw t.0 (zero_form m e (zero_abs m t.1))
  | inr t ↦
      let n = unsigned_abs m in
      let not_zero = t.1 in
      let found = without_zeros n n in
      let r = strips n n (⊎_elim (λ l. l) (λ l. absurd (not_zero l)) (above n)) (omega arith) in
      rw t.0 (record {
        form = stripped_canonical m (int_lt m (pos 0)) n found.0 found.1 _ r.whole r.last;
        value = stripped_same m e (int_lt m (pos 0)) n found.0 found.1 _ refl refl r.whole refl;
      })
]
  where
    above : (n : ℕ) → (0 < n) ⊎ (n ≡ 0)
    above n = grind arith

range_tells : (d : Decimal) →
    ((is_in_range d ≡ true) × (unsigned_abs d.mantissa < 10 ^ 18) × (negsuc 999 ≤ℤ d.exponent) × (d.exponent ≤ℤ pos 1000)) ⊎ ((is_in_range
    d ≡ false) × (HasOperand d → ⊥))
range_tells d = grind arith

pub operand_found : (m e : ℤ) → Finds (operand_of m e) m e
unfolding operand_of
operand_found m e =
    let d = canonical m e in
    let is = canonical_form m e in
    elim (range_tells d) [
      | inl t ↦ rw t.0 (record { some = (record { canonical = is.form; few_digits = t.1; low = t.2; high = t.3 }, is.value); none = tt })
      | inr t ↦ rw t.0 (record {
        some = tt;
        none = λ n f operand same.
            let one = one_form n f d.mantissa d.exponent operand.canonical is.form
            (IsSameValue-trans n f m e d.mantissa d.exponent same (IsSameValue-sym d.mantissa d.exponent m e is.value)) in
            t.1 (rw (← one.0, ← one.1) operand);
      })
    ]

pub finds_operand : (r : Option Decimal) (m e : ℤ) → IfSome r (λ o. HasOperand o × IsSameValue o.mantissa o.exponent m e) →
    IfNone r ((n f : ℤ) → IsOperand n f → IsSameValue n f m e → ⊥) → r ≡ operand_of m e
finds_operand r m e p q = found_once r (operand_of m e) m e (record { some = p; none = q }) (operand_found m e)

pub zero_operand : (o : Decimal) (m e : ℤ) → o.mantissa ≡ pos 0 → o.exponent ≡ pos 0 → m ≡ pos 0 → Some o ≡ operand_of m e
zero_operand o m e p q h =
    let zero_pair : Decimal = record { mantissa = pos 0; exponent = pos 0 } in
    let form = zero_form m e h in
    ap Some (same_decimal o zero_pair p q) ∙ found_once (Some zero_pair) (operand_of m e) m e
    (record {
      some = (
        record { canonical = form.form; few_digits = omega arith; low = omega (arith, ints); high = omega (arith, ints) },
        form.value,
      );
      none = tt;
    }) (operand_found m e)

abbrev raised : Decimal → ℤ
raised d = scaled d.mantissa (unsigned_abs d.exponent)

i32_tells : (d : Decimal) →
    ((to_i32 d ≡ Some (raised d)) × (pos 0 ≤ℤ d.exponent) × IsOf32Bits
    (raised d)) ⊎ ((to_i32 d ≡ None) × (pos 0 ≤ℤ d.exponent → IsOf32Bits (raised d) → ⊥))
unfolding to_i32
i32_tells d = grind arith

-- a whole number that has an operand: a positive exponent above 9 lifts it out of 32 bits
far_out : (m : ℤ) (k : ℕ) → unsigned_abs m ≢ 0 → 9 < k → IsOf32Bits (scaled m k) → ⊥
far_out m k some far h =
    let size = abs-scaled m k in
    let power : 10 ^ 10 ≤ 10 ^ k = pow-le-pow_right (omega arith) far in
    let big : 1 * 10 ^ 10 ≤ unsigned_abs m * 10 ^ k = mul-le-mul (positive (unsigned_abs m) some) power in
    let low = h.low in
    let high = h.high in
    omega (arith, ints)
  where
    positive : (n : ℕ) → n ≢ 0 → 1 ≤ n
    positive n p = grind arith

not_zero : (d : Decimal) → HasOperand d → d.exponent ≢ pos 0 → unsigned_abs d.mantissa ≢ 0
not_zero d operand p = λ h. p (operand.canonical.zero_alone (zero_abs d.mantissa h))

pub i32_below : (d : Decimal) → d.exponent <ℤ pos 0 → to_i32 d ≡ None
i32_below d low = elim (i32_tells d) [ inl t ↦ let k = t.1 in absurd (omega (arith, ints)) | inr t ↦ t.0 ]

pub i32_above : (d : Decimal) → HasOperand d → pos 9 <ℤ d.exponent → to_i32 d ≡ None
i32_above d operand high = grind (arith, i32_tells, far_out, not_zero, ints)

pub i32_some : (d : Decimal) → pos 0 ≤ℤ d.exponent → IsOf32Bits (raised d) → to_i32 d ≡ Some (raised d)
i32_some d low h = elim (i32_tells d) [ inl t ↦ t.0 | inr t ↦ absurd (t.1 low h) ]

scaled_none : (v : ℤ) → scaled v 0 ≡ v
scaled_none v = grind arith

same_whole : (d : Decimal) (v : ℤ) → pos 0 ≤ℤ d.exponent → IsSameValue d.mantissa d.exponent v (pos 0) → raised d ≡ v
same_whole d v low h = grind (arith, ints, clamps, scaled_none)

-- a value below the units is no whole number
no_whole : (d : Decimal) (v : ℤ) → HasOperand d → d.exponent <ℤ pos 0 → IsSameValue d.mantissa d.exponent v (pos 0) → ⊥
no_whole d v operand low h =
    let i_is : unsigned_abs (d.exponent -ℤ int_min d.exponent (pos 0)) ≡ 0 = omega (arith, ints, clamps) in
    let j_is : unsigned_abs (pos 0 -ℤ int_min d.exponent (pos 0)) ≡ suc (unsigned_abs d.exponent - 1) = omega (arith, ints, clamps) in
    let whole : d.mantissa ≡ scaled v (suc (unsigned_abs d.exponent - 1)) = sym (scaled_none d.mantissa)
    ∙ ap (scaled d.mantissa) (sym i_is) ∙ h ∙ ap (scaled v) j_is in
    let size = ap unsigned_abs whole ∙ abs-scaled v (suc (unsigned_abs d.exponent - 1)) in
    let zero_mantissa = operand.canonical.no_last_zero (rw size (last_zero (unsigned_abs v) (unsigned_abs d.exponent - 1))) in
    let zero_exponent = operand.canonical.zero_alone zero_mantissa in
    omega (arith, ints)

pub scaled_at : (m n : ℤ) (a b : ℕ) → m ≡ n → a ≡ b → scaled m a ≡ scaled n b
scaled_at m n a b p q = rw (p, q) refl

-- a number of 32 bits has an operand
few_in_32 : (n front zeros : ℕ) → n ≤ 2 ^ 31 → 0 < n → n ≡ front * 10 ^ zeros → front % 10 ≢ 0 → (front < 10 ^ 18) × (zeros < 39)
few_in_32 n front zeros small some whole last = grind (arith, tens_pos, mul-le-mul, tens_few)

operand_in_32 : (n : ℤ) → IsOf32Bits n → HasOperand (canonical n (pos 0))
unfolding canonical
operand_in_32 n small = elim (eqb_tells (unsigned_abs n) 0) [
  | inl t ↦
      let form = zero_form n (pos 0) (zero_abs n t.1) in
      rw t.0 (record { canonical = form.form; few_digits = omega arith; low = omega (arith, ints); high = omega (arith, ints) })
  | inr t ↦
      let size = unsigned_abs n in
      let not_zero = t.1 in
      let low = small.low in
      let high = small.high in
      let found = without_zeros size size in
      let r = strips size size (omega arith) (omega arith) in
      let few = few_in_32 size found.0 found.1 (omega (arith, ints)) (omega arith) r.whole r.last in
      let few_zeros = few.1 in
      rw t.0 (record {
        canonical = stripped_canonical n (int_lt n (pos 0)) size found.0 found.1 _ r.whole r.last;
        few_digits = rw (abs-signed (int_lt n (pos 0)) found.0) few.0;
        low = omega (arith, ints);
        high = omega (arith, ints);
      })
]

-- the operand of a whole number of 32 bits
pub whole_operand : (n : ℤ) → IsOf32Bits n → operand_of n (pos 0) ≡ Some (canonical n (pos 0))
whole_operand n small =
    let form = canonical_form n (pos 0) in
    sym (finds_operand (Some (canonical n (pos 0))) n (pos 0) (operand_in_32 n small, form.value) tt)

-- what a test of the exponent and of the value finds
pub finds_whole : (r : Option ℤ) (d : Decimal) → HasOperand d → pos 0 ≤ℤ d.exponent → IfSome r (λ v. (v ≡ raised d) × IsOf32Bits v) →
    IfNone r (IsOf32Bits (raised d) → ⊥) → r ≡ to_i32 d
finds_whole r d operand low p q = grind (arith, i32_some, i32_tells)

pub whole_if_some : (r : Option ℤ) (d : Decimal) → r ≡ to_i32 d → IfSome r (λ v. IsSameValue d.mantissa d.exponent v (pos 0))
whole_if_some r d e = grind (arith, i32_tells, meets-IsSameValue, ints, scaled_none)

pub none_if_none : (r : Option ℤ) (d : Decimal) → HasOperand d → r ≡ to_i32 d →
    IfNone r ((v : ℤ) → negsuc (2 ^ 31 - 1) ≤ℤ v → v ≤ℤ pos (2 ^ 31 - 1) → IsSameValue d.mantissa d.exponent v (pos 0) → ⊥)
none_if_none r d operand e = grind (arith, by_lt_z, no_whole, i32_some, same_whole)

-- the operand of a value is found exactly where there is one
pub finds_operands : FindsOperands
finds_operands = record { found = λ value operand. (there value operand, back value operand) }
  where
    there : (value operand : Decimal) → operand_of value.mantissa value.exponent ≡ Some operand → IsOperandOf operand value
    there value operand e =
        let found = subst (λ r. Finds r value.mantissa value.exponent) e (operand_found value.mantissa value.exponent) in
        record { in_form = found.some.0; equal = found.some.1 }

    back : (value operand : Decimal) → IsOperandOf operand value → operand_of value.mantissa value.exponent ≡ Some operand
    back value operand h =
        found_once (operand_of value.mantissa value.exponent) (Some operand) value.mantissa value.exponent
        (operand_found value.mantissa value.exponent) (record { some = (h.in_form, h.equal); none = tt })

-- Subtables one after the other.
use Rattle.std.proofs.Common.{◌≡◌, refl, ◌∙◌, sym, ap, subst, inl, inr, ℕ, ◌+◌, ◌-◌, ◌*◌, ◌^◌, ◌<◌, ◌≤◌, List, [], ◌∷◌, ◌++◌, length, flat_map, length-append, add-one, arith, Bool, true, false}
use Rattle.std.proofs.Math.Pow.{pow_mono}
use Rattle.postscript_kern.specs.Kept.{AreKept, IsKept, Subtable, chosen, left_out, no_subtable}
use Rattle.postscript_kern.specs.Numbers.{uint16, word}
use Rattle.postscript_kern.specs.Pairs.{HasPairs, count_of, coverage_of, subtable_at}
use Rattle.postscript_kern.specs.Refusals.{HasTooMany, Refuses, RefusesSubtable}
use Rattle.postscript_kern.specs.declared.error.Error.{Error}
use Rattle.postscript_kern.specs.declared.error.Error.TheVariants.{Memory, TooLarge, TooLong}
use Rattle.postscript_kern.specs.Written.{Adds, AreWritten, added, head_of, more, none, nothing, subtable_text}
use Rattle.postscript_kern.proofs.Firsts.{nat_cases}

-- a power of two that is at most 10,920
pub below-14 : (s p n : ℕ) → p ≡ 2 ^ s → p ≤ n → n ≤ 10920 → s < 14
below-14 s p n is least few = elim (nat_cases s 14) [
  | inl low ↦ low
  | inr high ↦ (let large : 16384 ≤ 2 ^ s = pow_mono {i = 14} {j = s} high in absurd (omega (arith, is, least, few, large)))
]

pub head-is : (coverage n m p s : ℕ) → n ≡ m → p ≡ 2 ^ s →
    flat_map uint16 (0 ∷ (14 + n * 6) ∷ coverage ∷ n ∷ (p * 6) ∷ s ∷ ((n - p) * 6) ∷ []) ≡ flat_map uint16 (head_of coverage m s)
head-is coverage n m p s e f =
    ap (λ (k : ℕ). flat_map uint16 (0 ∷ (14 + k * 6) ∷ coverage ∷ k ∷ (p * 6) ∷ s ∷ ((k - p) * 6) ∷ [])) e
    ∙ ap (λ (k : ℕ). flat_map uint16 (0 ∷ (14 + m * 6) ∷ coverage ∷ m ∷ (k * 6) ∷ s ∷ ((m - k) * 6) ∷ [])) f

-- the subtables of the first ones of a table, and their bytes
pub record AreSoFar (table kept : List ℕ) (i count : ℕ) (bytes : List ℕ) : Type 0 where
  pub subtables : List Subtable
  pub are : AreKept table kept i subtables
  pub written : AreWritten subtables bytes
  pub counted : length subtables ≡ count

pub none-so-far : (table kept bytes : List ℕ) → bytes ≡ [] → AreSoFar table kept 0 0 bytes
none-so-far table kept bytes e = record {
  subtables = [];
  are = no_subtable;
  written = subst (λ (xs : List ℕ). AreWritten [] xs) (sym e) none;
  counted = refl;
}

pub so-far : (table kept old new : List ℕ) (i count total at : ℕ) (b : Bool) → at ≡ subtable_at table i → AreSoFar table kept i count old →
    (b ≡ true → total ≡ count + 1) → (b ≡ false → total ≡ count) → Adds table kept at old b new → AreSoFar table kept (i + 1) total new
so-far table kept old _ i count total at _ place s if_true if_false (nothing absent) = record {
  subtables = s.subtables;
  are = left_out i s.subtables s.are
      (subst (λ (k : ℕ). HasPairs table k → IsKept table kept k []) place absent);
  written = s.written;
  counted = s.counted ∙ sym (if_false refl);
}
so-far table kept old _ i count total at _ place s if_true if_false (added pairs new has are some few puts) =
    let k : ℕ = subtable_at table i in
    let subtable : Subtable = record { coverage = coverage_of table k; pairs = pairs } in
    let text : new ≡ old ++ subtable_text subtable puts.selector =
    puts.is ∙ ap (λ (a : ℕ). old ++ subtable_text (record { coverage = coverage_of table a; pairs = pairs }) puts.selector) place in
    let many = length-append s.subtables (subtable ∷ []) in
    let counted = s.counted in
    let all = if_true refl in
    record {
      subtables = s.subtables ++ subtable ∷ [];
      are = chosen i s.subtables pairs s.are (subst (HasPairs table) place has)
          (subst (λ (a : ℕ). IsKept table kept a pairs) place are) some;
      written = subst (λ (xs : List ℕ). AreWritten (s.subtables ++ subtable ∷ []) xs) (sym text)
          (more s.subtables subtable old puts.selector s.written puts.is_selector few);
      counted = omega (arith, many, counted, all);
    }

pub next-at : (table : List ℕ) (i at length : ℕ) → at ≡ subtable_at table i → length ≡ word table (at + 2) → at + length ≡ subtable_at table (i + 1)
next-at table i at length place is =
    ap (λ (n : ℕ). at + n) is ∙ ap (λ (k : ℕ). k + word table (k + 2)) place ∙ ap (subtable_at table) (sym (add-one i))

pub refused : (e : Error) (table kept : List ℕ) (i at left : ℕ) → at ≡ subtable_at table i → i < count_of table →
    RefusesSubtable table kept at left e → Refuses e table kept left
refused Memory table kept i at left place less h = tt
refused TooLong table kept i at left place less h = h
refused TooLarge table kept i at left place less h = inr (i, less, subst (HasTooMany table kept) place h)

-- What subtables, language systems and scripts cost together.
use Rattle.std.proofs.Common.{◌≡◌, refl, ap, inl, inr, ℕ, zero, suc, ◌+◌, ◌<◌, ◌≤◌, List, arith}
use Rattle.std.proofs.lemmas.Bool.Decides.{nat_tests}
use Rattle.postscript_kern.specs.Pairs.{HasPairs, pairs_in}
use Rattle.postscript_kern.specs.Units.{pairs_at, total}
use Rattle.postscript_kern.proofs.Firsts.{nat_cases}

pub total_none : (f : ℕ → ℕ) → total f 0 ≡ 0
unfolding total
total_none f = refl

pub total_next : (f : ℕ → ℕ) (i j : ℕ) → j ≡ i + 1 → total f j ≡ total f i + f i
unfolding total
total_next f i zero e = absurd (omega (arith, e))
total_next f i (suc j) e = let same : j ≡ i = omega (arith, e) in ap (λ n. total f n + f n) same

-- the first numbers do not sum to more than all
pub total_within : (f : ℕ → ℕ) (i n end : ℕ) → end ≡ n → i < end → total f i + f i ≤ total f n
unfolding total
total_within f i zero end is less = absurd (omega (arith, is, less))
total_within f i (suc n) end is less = elim (nat_cases i n) [
  | inl below ↦ (let rest = total_within f i n n refl below in omega (arith, rest))
  | inr last ↦ (let same : n ≡ i = omega (arith, is, less, last) in let next = ap (λ k. total f k + f k) same in omega (arith, next))
]

-- the pairs of a subtable, by `HasPairs`
pub pairs_there : (table : List ℕ) (at : ℕ) → HasPairs table at → pairs_at table at ≡ pairs_in table at
pairs_there table at has = grind (arith, nat_tests)

pub pairs_absent : (table : List ℕ) (at : ℕ) → (HasPairs table at → ⊥) → pairs_at table at ≡ 0
pairs_absent table at none = grind (arith, nat_tests)

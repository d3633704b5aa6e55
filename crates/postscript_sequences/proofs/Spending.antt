-- What records cost together.
use Rattle.std.proofs.Common.{◌≡◌, refl, ap, inl, inr, ℕ, zero, suc, ◌+◌, ◌<◌, ◌≤◌, List, arith}
use Rattle.std.proofs.lemmas.Bool.{cases_lt}
use Rattle.postscript_sequences.specs.Units.{record_units, units_to}

pub units_none : (table : List ℕ) (chars : ℕ) → units_to table chars 0 ≡ 0
unfolding units_to
units_none table chars = refl

pub units_next : (table : List ℕ) (chars i j : ℕ) → j ≡ i + 1 → units_to table chars j ≡ units_to table chars i + record_units table chars i
unfolding units_to
units_next table chars i zero e = absurd (omega (arith, e))
units_next table chars i (suc j) e =
    let same : j ≡ i = omega (arith, e) in ap (λ n. units_to table chars n + record_units table chars n) same

-- the first records do not cost more than all
pub units_within : (table : List ℕ) (chars i n : ℕ) → i < n → units_to table chars i + record_units table chars i ≤ units_to table chars n
unfolding units_to
units_within table chars i zero less = absurd (omega (arith, less))
units_within table chars i (suc n) less = elim (cases_lt i n) [
  | inl below ↦ (let rest = units_within table chars i n below in omega (arith, rest))
  | inr last ↦
      let same : n ≡ i = omega (arith, less, last) in
      let is = ap (λ k. units_to table chars k + record_units table chars k) same in
      omega (arith, is)
]

pub units_up_to : (table : List ℕ) (chars i n : ℕ) → i ≤ n → units_to table chars i ≤ units_to table chars n
units_up_to table chars i n upto = elim (cases_lt i n) [
  | inl below ↦ (let rest = units_within table chars i n below in omega (arith, rest))
  | inr last ↦ (let is = ap (units_to table chars) (let same : i ≡ n = omega (arith, upto, last) in same) in omega (arith, is))
]

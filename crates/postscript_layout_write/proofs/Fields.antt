-- Values of a record.
use Rattle.std.proofs.Common.{◌≡◌, refl, ap, sym, subst, ◌∙◌, ℕ, ◌+◌, ◌*◌, ◌/◌, ◌%◌, ◌^◌, ◌<◌, ◌≤◌, arith, add-one, List, true, false, if◌then◌else◌, nat_eq}
use Rattle.std.proofs.Math.Nat.{div-div-eq-div-mul, pow-suc}
use Rattle.std.proofs.lemmas.Nat.{mul-le}
use Rattle.postscript_layout.specs.Numbers.{word}
use Rattle.postscript_layout_write.specs.Values.{has_value, value, values_below}

pub below-none : (format : ℕ) → values_below format 0 ≡ 0
unfolding values_below
below-none format = refl

pub below-more : (format k : ℕ) → values_below format (k + 1) ≡ values_below format k + format / 2 ^ k % 2
unfolding values_below
below-more format k = rw add-one refl

pub room : (row columns column size : ℕ) → row < 65536 → columns < 65536 → column < 65536 → size ≤ 64 →
    (row * columns + column) * size ≤ 274877906944
room row columns column size a b c d =
    let p : row * columns ≤ 65535 * 65535 = mul-le row columns 65535 65535 (omega (arith, a)) (omega (arith, b)) in
    let q : row * columns + column ≤ 4294901760 = omega (arith, p, c) in
    let r : (row * columns + column) * size ≤ 4294901760 * 64 = mul-le (row * columns + column) size 4294901760 64 q d in
    omega (arith, r)

-- the number of values says whether a record has value k
pub value-there : (table : List ℕ) (at format k : ℕ) → values_below format k < values_below format (k + 1) →
    value table at format k ≡ word table (at + values_below format k * 2)
value-there table at format k less = ap (λ b. if b then word table (at + values_below format k * 2) else 0) there
  where
    there : has_value format k ≡ true
    there = let more = below-more format k in let one : format / 2 ^ k % 2 ≡ 1 = omega (arith, more, less) in subst (λ n. nat_eq n 1 ≡ true) (sym one) refl

pub value-none : (table : List ℕ) (at format k : ℕ) → values_below format (k + 1) ≤ values_below format k → value table at format k ≡ 0
value-none table at format k least = ap (λ b. if b then word table (at + values_below format k * 2) else 0) none
  where
    none : has_value format k ≡ false
    none = let more = below-more format k in let zero : format / 2 ^ k % 2 ≡ 0 = omega (arith, more, least) in subst (λ n. nat_eq n 1 ≡ false) (sym zero) refl

pub half : (n k : ℕ) → n / 2 ^ k / 2 ≡ n / 2 ^ (k + 1)
half n k = div-div-eq-div-mul n (2 ^ k) 2 ∙ ap (λ m. n / m) (sym (pow-suc 2 k)) ∙ ap (λ m. n / 2 ^ m) (sym (add-one k))

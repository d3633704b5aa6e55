-- How far sums of rounded products are from the exact ones.
use Rattle.std.proofs.Common.{ℕ, suc, ◌+◌, ◌*◌, ◌/◌, ℤ, pos, negsuc, neg_ℤ, ◌+ℤ◌, ◌*ℤ◌, [], ◌∷◌, length, arith}
use Rattle.std.proofs.lemmas.Int.{ints}
use Rattle.postscript_variable.specs.Blending.{scaled, sum_of}
use Rattle.postscript_variable.specs.Nearness.{exact_sum, IsWithinHalves, SumsAreNear}
use Rattle.postscript_variable.proofs.BlendLaws.{above-zero}

-- one product
near-size : (m : ℕ) → IsWithinHalves (pos ((m + 32768) / 65536)) (pos m) 1
near-size m = record { above = omega (arith, ints); below = omega (arith, ints) }

turned : (sum exact : ℤ) (count : ℕ) → IsWithinHalves sum exact count → IsWithinHalves (neg_ℤ sum) (neg_ℤ exact) count
turned sum exact count near =
    let a = near.above in let b = near.below in record { above = omega (arith, ints, b); below = omega (arith, ints, a) }

pub near-one : (delta : ℤ) (scalar : ℕ) → IsWithinHalves (scaled delta scalar) (delta *ℤ pos scalar) 1
near-one (pos n) scalar = rw (above-zero n scalar) (near-size (n * scalar))
near-one (negsuc n) scalar = turned (pos ((suc n * scalar + 32768) / 65536)) (pos (suc n * scalar)) 1 (near-size (suc n * scalar))

-- one more
both : (a x b y : ℤ) (n : ℕ) → IsWithinHalves a x 1 → IsWithinHalves b y n → IsWithinHalves (a +ℤ b) (x +ℤ y) (suc n)
both a x b y n one others =
    let p = one.above in
    let q = one.below in
    let r = others.above in
    let s = others.below in
    record { above = omega (arith, ints, p, r); below = omega (arith, ints, q, s) }

pub law : SumsAreNear
law [] [] e = record { above = omega (arith, ints); below = omega (arith, ints) }
law [] (delta ∷ deltas) e = absurd (omega arith)
law (scalar ∷ scalars) [] e = absurd (omega arith)
law (scalar ∷ scalars) (delta ∷ deltas) e =
    both (scaled delta scalar) (delta *ℤ pos scalar) (sum_of deltas scalars) (exact_sum deltas scalars) (length scalars)
    (near-one delta scalar) (law scalars deltas (omega arith))

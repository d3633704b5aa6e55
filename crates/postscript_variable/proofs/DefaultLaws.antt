-- Blended values where no region counts.
use Rattle.std.proofs.Common.{◌≡◌, refl, ap, ◌∙◌, ℕ, suc, ◌+◌, ◌*◌, ◌/◌, ℤ, pos, negsuc, neg_ℤ, ◌+ℤ◌, List, [], ◌∷◌, length, take, drop, Ok, arith}
use Rattle.std.proofs.lemmas.Int.{ints}
use Rattle.postscript_type2.specs.Program.FixedPoint.{fit}
use Rattle.postscript_variable.specs.Blending.{scaled, sum_of, before_all, values}
use Rattle.postscript_variable.specs.Defaults.{AreZero, DefaultsStay}
use Rattle.postscript_variable.proofs.BlendLaws.{above-zero, below-zero, fit-held}

zero-scaled : (delta : ℤ) → scaled delta 0 ≡ pos 0
zero-scaled (pos n) = let none : (n * 0 + 32768) / 65536 ≡ 0 = omega arith in above-zero n 0 ∙ ap pos none
zero-scaled (negsuc n) = let none : (suc n * 0 + 32768) / 65536 ≡ 0 = omega arith in below-zero n 0 ∙ ap (λ size. neg_ℤ (pos size)) none

zero-sum : (deltas : List ℤ) (scalars : List ℕ) → AreZero scalars → sum_of deltas scalars ≡ pos 0
zero-sum [] scalars h = refl
zero-sum (delta ∷ deltas) [] h = refl
zero-sum (delta ∷ deltas) (scalar ∷ scalars) h =
    ap (λ s. scaled delta s +ℤ sum_of deltas scalars) h.0 ∙ ap (λ p. p +ℤ sum_of deltas scalars) (zero-scaled delta)
    ∙ ap (λ s. pos 0 +ℤ s) (zero-sum deltas scalars h.1)

no-more : (x : ℤ) → x +ℤ pos 0 ≡ x
no-more x = omega (arith, ints)

pub law : DefaultsStay
law scalars [] deltas zero held = refl
law scalars (num ∷ nums) deltas zero held =
    let k = length scalars in
    ap (λ s. before_all (fit (num +ℤ s)) (values nums (drop k deltas) scalars)) (zero-sum (take k deltas) scalars zero)
    ∙ ap (λ x. before_all (fit x) (values nums (drop k deltas) scalars)) (no-more num)
    ∙ ap (λ r. before_all r (values nums (drop k deltas) scalars)) (fit-held num held.0)
    ∙ ap (before_all (Ok num)) (law scalars nums (drop k deltas) zero held.1)

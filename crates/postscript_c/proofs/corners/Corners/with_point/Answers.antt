use Rattle.std.proofs.Common.{rules, ◌≡◌, ◌∙◌, Some, None, [], ◌∷◌, w32, ℤ, pos, negsuc, SFits, arith, cond, true, false, int_lt, to_z, of_z}
use Rattle.std.proofs.lemmas.Int.{ints, clamps, to_z-of_z}
use Rattle.std.specs.Int.{int_min, int_max}
use lib.Lanes.{top}
use Rattle.postscript_c.proofs.corners.Corners.with_point.Goals as goal

-- the lesser and the greater number of a lane, as the machine tells them
lesser : (y z : ℤ) → SFits w32 y → SFits w32 z →
    to_z w32 (cond (top 31 (cond (int_lt (to_z w32 (of_z w32 y)) (to_z w32 (of_z w32 z))) 4294967295 0)) (of_z w32 y) (of_z w32 z)) ≡
    int_min y z
lesser y z f g = search rules

greater : (y z : ℤ) → SFits w32 y → SFits w32 z →
    to_z w32 (cond (top 31 (cond (int_lt (to_z w32 (of_z w32 y)) (to_z w32 (of_z w32 z))) 4294967295 0)) (of_z w32 z) (of_z w32 y)) ≡
    int_max y z
greater y z f g = grind (arith, ints, clamps, to_z-of_z)

-- both fit a lane
lesser_fits : (y z : ℤ) → SFits w32 y → SFits w32 z → SFits w32 (int_min y z)
lesser_fits y z f g = elim (int_lt z y) as (λ v. SFits w32 (cond v z y)) [ true ↦ g | false ↦ f ]

greater_fits : (y z : ℤ) → SFits w32 y → SFits w32 z → SFits w32 (int_max y z)
greater_fits y z f g = elim (int_lt z y) as (λ v. SFits w32 (cond v y z)) [ true ↦ f | false ↦ g ]

-- beside the greatest number of a lane, or the least, they are the other number
first_low : (z : ℤ) → SFits w32 z → int_min (pos 2147483647) z ≡ z
first_low z fits = omega (arith, ints, clamps)

first_high : (z : ℤ) → SFits w32 z → int_max (negsuc 2147483647) z ≡ z
first_high z fits = omega (arith, ints, clamps)

pub returns : goal.returns
returns c None are =
    let at = c.args.at in
    let x : SFits w32 at.x = search rules in
    let y : SFits w32 at.y = search rules in
    let most : SFits w32 (pos 2147483647) = search rules in
    let least : SFits w32 (negsuc 2147483647) = search rules in
    let left = lesser (pos 2147483647) at.x most x ∙ first_low at.x x in
    let bottom = lesser (pos 2147483647) at.y most y ∙ first_low at.y y in
    let right = greater (negsuc 2147483647) at.x least x ∙ first_high at.x x in
    let upper = greater (negsuc 2147483647) at.y least y ∙ first_high at.y y in
    rw are.0 ((λ i. record { low = left i ∷ bottom i ∷ []; high = right i ∷ upper i ∷ [] }), ((x, y), (x, y)))
returns c (Some b) are =
    let at = c.args.at in
    let x : SFits w32 at.x = search rules in
    let y : SFits w32 at.y = search rules in
    let ((left, bottom), (right, upper)) = are.1 in
    rw are.0 (
      (λ i. record {
        low = lesser b.low.x at.x left x i ∷ lesser b.low.y at.y bottom y i ∷ [];
        high = greater b.high.x at.x right x i ∷ greater b.high.y at.y upper y i ∷ [];
      }),
      (
        (lesser_fits b.low.x at.x left x, lesser_fits b.low.y at.y bottom y),
        (greater_fits b.high.x at.x right x, greater_fits b.high.y at.y upper y),
      ),
    )

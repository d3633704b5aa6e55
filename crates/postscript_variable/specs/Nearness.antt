-- The distance of blended values from the exact values that the deltas and the scalars give.
use Rattle.std.specs.Prelude.{◌≡◌, ℕ, ◌*◌, ℤ, pos, ◌+ℤ◌, ◌*ℤ◌, ◌≤ℤ◌, List, [], ◌∷◌, length}
use Rattle.postscript_variable.specs.Blending.{sum_of}

-- the exact sum of the deltas, each times the scalar of its region, in units of 1 / 65536 ^ 2
abbrev pub exact_sum : (deltas : List ℤ) → (scalars : List ℕ) → ℤ
exact_sum [] scalars = pos 0
exact_sum (delta ∷ deltas) [] = pos 0
exact_sum (delta ∷ deltas) (scalar ∷ scalars) = (delta *ℤ pos scalar) +ℤ exact_sum deltas scalars

-- Twice the distance of sum / 65536 from exact / 65536 ^ 2 is at most `count` units of 1 / 65536. Both inequalities are multiplied by 65536
-- ^ 2.
pub record IsWithinHalves (sum exact : ℤ) (count : ℕ) : Type 0 where
  pub above : (pos 131072 *ℤ sum) ≤ℤ ((pos 2 *ℤ exact) +ℤ pos (count * 65536))
  pub below : (pos 2 *ℤ exact) ≤ℤ ((pos 131072 *ℤ sum) +ℤ pos (count * 65536))

-- A law of the definitions. With n regions, the sum that is added to a default is close to the exact sum of each delta times the scalar of
-- its region. It is at most n / 2 units of 1 / 65536 away.
abbrev pub SumsAreNear : Type 0
SumsAreNear = (scalars : List ℕ) (deltas : List ℤ) → length deltas ≡ length scalars →
    IsWithinHalves (sum_of deltas scalars) (exact_sum deltas scalars) (length scalars)

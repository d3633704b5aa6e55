-- The points of Bézier curves.
use Rattle.std.specs.Int.{int_min, int_max}
use Rattle.std.specs.Prelude.{ℕ, ◌+◌, ◌*◌, ◌<◌, ℤ, pos, ◌+ℤ◌, ◌*ℤ◌, ◌<ℤ◌, ◌≤ℤ◌}

abbrev pub cube : ℕ → ℤ
cube k = pos (k * k * k)

-- The coordinate of a Bézier curve on an axis, after n of m + n parts, times the cube of m + n. The arguments p, q, r and s are the
-- coordinates of its ends and of its control points in order (Bernstein's form).
abbrev pub bezier : (p q r s : ℤ) (m n : ℕ) → ℤ
bezier p q r s m n = p *ℤ pos (m * m * m) +ℤ q *ℤ pos (3 * (m * m * n)) +ℤ r *ℤ pos (3 * (m * n * n)) +ℤ s *ℤ pos (n * n * n)

-- the least and the greatest of the coordinates
abbrev pub least : (p q r s : ℤ) → ℤ
least p q r s = int_min (int_min (int_min p q) r) s

abbrev pub greatest : (p q r s : ℤ) → ℤ
greatest p q r s = int_max (int_max (int_max p q) r) s

-- The curve extends from low to high: each of its points is between them. Some point is less than two units from each. Neither is beyond
-- the coordinates.
pub record Reaches (low high p q r s : ℤ) : Type 0 where
  pub above : (m n : ℕ) → (low *ℤ cube (m + n)) ≤ℤ bezier p q r s m n
  pub below : (m n : ℕ) → bezier p q r s m n ≤ℤ (high *ℤ cube (m + n))
  pub dips : (m : ℕ) × (n : ℕ) × (0 < m + n) × (bezier p q r s m n <ℤ ((low +ℤ pos 2) *ℤ cube (m + n)))
  pub rises : (m : ℕ) × (n : ℕ) × (0 < m + n) × ((high *ℤ cube (m + n)) <ℤ (bezier p q r s m n +ℤ pos 2 *ℤ cube (m + n)))
  pub low_within : least p q r s ≤ℤ low
  pub high_within : high ≤ℤ greatest p q r s

-- A curve along one axis and its halves, in whole numbers that are not negative.
use Rattle.std.specs.Prelude.{ℕ, ◌+◌, ◌*◌, ◌<◌, ◌≤◌, min, max}
use Rattle.postscript_outline.specs.declared.curve.Curve.{Curve}
use Rattle.postscript_outline.specs.declared.curve.Span.{Span}

abbrev pub cube : ℕ → ℕ
cube k = k * k * k

-- the coordinate of the curve after n of m + n parts, times the cube of m + n (Bernstein's form)
abbrev pub height : Curve → (m n : ℕ) → ℕ
height c m n = c.from * (m * m * m) + c.first * (3 * (m * m * n)) + c.second * (3 * (m * n * n)) + c.to * (n * n * n)

-- the two halves of a curve, in eighths (de Casteljau)
abbrev pub front : Curve → Curve
front c = record {
  from = 8 * c.from;
  first = 4 * (c.from + c.first);
  second = 2 * (c.from + 2 * c.first + c.second);
  to = c.from + 3 * c.first + 3 * c.second + c.to;
}

abbrev pub back : Curve → Curve
back c = record {
  from = c.from + 3 * c.first + 3 * c.second + c.to;
  first = 2 * (c.first + 2 * c.second + c.to);
  second = 4 * (c.second + c.to);
  to = 8 * c.to;
}

-- no coordinate is greater
pub record IsCurveWithin (most : ℕ) (c : Curve) : Type 0 where
  pub from : c.from ≤ most
  pub first : c.first ≤ most
  pub second : c.second ≤ most
  pub to : c.to ≤ most

-- both control points are between the ends
pub record IsLevel (c : Curve) : Type 0 where
  pub first_low : min c.from c.to ≤ c.first
  pub first_high : c.first ≤ max c.from c.to
  pub second_low : min c.from c.to ≤ c.second
  pub second_high : c.second ≤ max c.from c.to

-- both control points are at most `most` beyond the ends
pub record IsNearLevel (most : ℕ) (c : Curve) : Type 0 where
  pub first_low : min c.from c.to ≤ c.first + most
  pub first_high : c.first ≤ max c.from c.to + most
  pub second_low : min c.from c.to ≤ c.second + most
  pub second_high : c.second ≤ max c.from c.to + most

-- the second differences of the coordinates, times `times`, are at most `most` in absolute value
pub record IsBent (times most : ℕ) (c : Curve) : Type 0 where
  pub begin_up : times * (c.from + c.second) ≤ times * (2 * c.first) + most
  pub begin_down : times * (2 * c.first) ≤ times * (c.from + c.second) + most
  pub end_up : times * (c.first + c.to) ≤ times * (2 * c.second) + most
  pub end_down : times * (2 * c.second) ≤ times * (c.first + c.to) + most

-- A curve extends from low to high, in units of `unit` parts: each of its points is between them. Some point is less than two units from
-- each. Neither is beyond the coordinates, rounded outwards to whole units.
pub record Spans (s : Span) (unit : ℕ) (c : Curve) : Type 0 where
  pub above : (m n : ℕ) → s.low * unit * cube (m + n) ≤ height c m n
  pub below : (m n : ℕ) → height c m n ≤ s.high * unit * cube (m + n)
  pub dips : (m : ℕ) × (n : ℕ) × (0 < m + n) × (height c m n < (s.low + 2) * unit * cube (m + n))
  pub rises : (m : ℕ) × (n : ℕ) × (0 < m + n) × (s.high * unit * cube (m + n) < height c m n + 2 * unit * cube (m + n))
  pub least : (k : ℕ) → k * unit ≤ c.from → k * unit ≤ c.first → k * unit ≤ c.second → k * unit ≤ c.to → k ≤ s.low
  pub greatest : (k : ℕ) → c.from ≤ k * unit → c.first ≤ k * unit → c.second ≤ k * unit → c.to ≤ k * unit → s.high ≤ k

abbrev pub joined : Span → Span → Span
joined s t = record { low = min s.low t.low; high = max s.high t.high }

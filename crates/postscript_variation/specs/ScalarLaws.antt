-- Scalars as they are computed, and their exact values.
use Rattle.std.specs.Prelude.{◌≡◌, ◌↔◌, ℕ, suc, ◌+◌, ◌*◌, ◌≤◌, ◌<◌, ◌==◌, if◌then◌else◌, ℤ, List, slice_get}
use Rattle.postscript_variation.specs.Scalars.{IsAxisScalar, IsNearest, full, scaled}
use Rattle.postscript_variation.specs.Store.{coordinate_at, scalar_by, span_at, told}

-- the scalar times the axis scalar, rounded to the nearest unit of 2 ^ -16
pub record IsScaled (scalar : ℕ) (start peak last at : ℤ) (result : ℕ) : Type 0 where
  pub part : ℕ
  pub whole : ℕ
  pub axis : IsAxisScalar start peak last at part whole
  pub near : IsNearest (scalar * part) whole result

-- the computed scalar is the only one that satisfies the definition
abbrev pub AxisScalarsAreMultiplied : Type 0
AxisScalarsAreMultiplied = (scalar : ℕ) (start peak last at : ℤ) (result : ℕ) →
    (scaled scalar start peak last at ≡ result) ↔ IsScaled scalar start peak last at result

-- the axis scalar of a region along an axis
abbrev pub IsAxisScalarOf : List ℕ → (place axes region axis : ℕ) → (coordinates : List ℤ) → (part whole : ℕ) → Type 0
IsAxisScalarOf bytes place axes region axis coordinates part whole =
    let there = span_at place axes region axis in
    IsAxisScalar (coordinate_at bytes there) (coordinate_at bytes (there + 2)) (coordinate_at bytes (there + 4))
    (told (slice_get coordinates axis)) part whole

-- 1 if the denominator of an axis scalar is not 1, otherwise 0
abbrev pub fractions : (whole : ℕ) → ℕ
fractions whole = if whole == 1 then 0 else 1

-- The product of the axis scalars of a region, for its first `count` axes, is exactly part / whole. `rounded` of them are fractions.
pub data IsProduct (bytes : List ℕ) (place axes region : ℕ) (coordinates : List ℤ) : (count part whole rounded : ℕ) → Type 0 where
  of_none : IsProduct bytes place axes region coordinates 0 1 1 0
  by_axis : (axis part whole rounded axis_part axis_whole : ℕ)
      → IsProduct bytes place axes region coordinates axis part whole rounded
      → IsAxisScalarOf bytes place axes region axis coordinates axis_part axis_whole
      → IsProduct bytes place axes region coordinates (suc axis) (part * axis_part) (whole * axis_whole) (rounded + fractions axis_whole)

-- Twice the distance of scalar / 65536 from part / whole is at most `rounded` units of 2 ^ -16. Both inequalities are multiplied by 65536 *
-- whole.
pub record IsWithinHalves (scalar part whole rounded : ℕ) : Type 0 where
  pub some : 0 < whole
  pub above : 2 * scalar * whole ≤ 2 * (full * part) + rounded * whole
  pub below : 2 * (full * part) ≤ 2 * scalar * whole + rounded * whole

-- The computed scalar is at most half a unit away from the exact one for each fraction among the axis scalars.
abbrev pub ScalarsAreNear : Type 0
ScalarsAreNear = (bytes : List ℕ) (place axes region : ℕ) (coordinates : List ℤ) (count part whole rounded : ℕ)
    → IsProduct bytes place axes region coordinates count part whole rounded
    → IsWithinHalves (scalar_by bytes place axes region coordinates count) part whole rounded

-- An exact scalar for the first `count` axes, of which at most `count` are fractions.
pub record HasProduct (bytes : List ℕ) (place axes region : ℕ) (coordinates : List ℤ) (count : ℕ) : Type 0 where
  pub part : ℕ
  pub whole : ℕ
  pub rounded : ℕ
  pub is : IsProduct bytes place axes region coordinates count part whole rounded
  pub most : rounded ≤ count

-- Each region has an exact scalar, for any number of axes.
abbrev pub ScalarsAreProducts : Type 0
ScalarsAreProducts = (bytes : List ℕ) (place axes region : ℕ) (coordinates : List ℤ) (count : ℕ)
    → HasProduct bytes place axes region coordinates count

-- The distance of blended values at a location from the exact interpolated ones (OpenType 1.9, "OpenType Font Variations Overview",
-- "Algorithm for interpolation of instance values"). Deltas are in units of 1 / 65536, as scalars are.
use Rattle.std.specs.Prelude.{◌≡◌, ℕ, suc, ◌+◌, ◌*◌, ℤ, pos, ◌+ℤ◌, ◌*ℤ◌, unsigned_abs, List, [], ◌∷◌, length}
use Rattle.postscript_variable.specs.Blending.{sum_of}
use Rattle.postscript_variation.specs.Lent.{delta_count, scalar_at}
use Rattle.postscript_variation.specs.SumLaws.{IsExactScalar, IsNear}
use Rattle.postscript_variation.specs.declared.store.Data.{Data}
use Rattle.postscript_variable_font.specs.Places.{AreScalars}

-- Deltas from delta j on, and the computed scalars of their regions. The sum of each delta times the exact scalar is part / whole. `halves`
-- is a sum over the regions: 65536, and the size of the delta times the number of fractions among the axis scalars of the region.
pub data IsExactSum (table : Data) (coordinates : List ℤ) :
    (j : ℕ) → (scalars : List ℕ) → (deltas : List ℤ) → (part : ℤ) → (whole halves : ℕ) → Type 0 where
  none : (j : ℕ) → IsExactSum table coordinates j [] [] (pos 0) 1 0
  more : (j : ℕ) (scalars : List ℕ) (delta : ℤ) (deltas : List ℤ) (part : ℤ) (whole halves p w rounded : ℕ) →
      IsExactScalar table coordinates j p w rounded →
      IsExactSum table coordinates (suc j) scalars deltas part whole halves →
      IsExactSum table coordinates j (scalar_at table coordinates j ∷ scalars) (delta ∷ deltas)
      (((delta *ℤ pos p) *ℤ pos whole) +ℤ (part *ℤ pos w)) (w * whole) (65536 + unsigned_abs delta * rounded + halves)

-- A law of the definitions. The sum of n deltas that is added to a default is at most n / 2 units of 1 / 65536 away from the exact sum. It
-- may be half a unit more for each 65536 of a delta and each fraction among the axis scalars of its region.
abbrev pub BlendsAreNear : Type 0
BlendsAreNear = (table : Data) (coordinates : List ℤ) (j : ℕ) (scalars : List ℕ) (deltas : List ℤ) (part : ℤ) (whole halves : ℕ) →
    IsExactSum table coordinates j scalars deltas part whole halves → IsNear (sum_of deltas scalars) part whole halves

-- An exact sum.
pub record HasExactSum (table : Data) (coordinates : List ℤ) (scalars : List ℕ) (deltas : List ℤ) : Type 0 where
  pub part : ℤ
  pub whole : ℕ
  pub halves : ℕ
  pub is : IsExactSum table coordinates 0 scalars deltas part whole halves

-- There is an exact sum for any deltas with the scalars at these coordinates.
abbrev pub ExactSumsAre : Type 0
ExactSumsAre = (table : Data) (coordinates : List ℤ) (scalars : List ℕ) (deltas : List ℤ) →
    AreScalars table coordinates (delta_count table) scalars → length deltas ≡ length scalars → HasExactSum table coordinates scalars deltas

-- Sums of deltas as they are computed, and their exact values (OpenType 1.9, "OpenType Font Variations Overview", "Algorithm for
-- interpolation of instance values", the net adjustment).
use Rattle.std.specs.Prelude.{◌≡◌, ◌↔◌, ℕ, suc, ◌+◌, ◌*◌, ◌<◌, ◌≤◌, ℤ, pos, ◌+ℤ◌, ◌*ℤ◌, ◌≤ℤ◌, ◌<ℤ◌, unsigned_abs, List}
use Rattle.postscript_variation.specs.Deltas.{delta_at}
use Rattle.postscript_variation.specs.Lent.{axes_of, delta_count, region_count, region_of}
use Rattle.postscript_variation.specs.LentAdvances.{VariesBy, in_whole}
use Rattle.postscript_variation.specs.LentDeltas.{item_place, variation_of}
use Rattle.postscript_variation.specs.ScalarLaws.{IsProduct}
use Rattle.postscript_variation.specs.declared.store.Data.{Data}
use Rattle.postscript_variation.specs.declared.store.Store.{Store}

-- The exact scalar of the region of delta j is part / whole, the product of its axis scalars. `rounded` of them are fractions. The scalar
-- is 0 if the list has no such region.
pub data IsExactScalar (table : Data) (coordinates : List ℤ) (j : ℕ) : (part whole rounded : ℕ) → Type 0 where
  of_region : (part whole rounded : ℕ) → region_of table j < region_count table.regions
      → IsProduct table.regions.bytes.now table.regions.place table.regions.axes (region_of table j) coordinates table.regions.axes
      part whole rounded
      → IsExactScalar table coordinates j part whole rounded
  of_none : region_count table.regions ≤ region_of table j → IsExactScalar table coordinates j 0 1 0

-- delta j of a delta set
abbrev pub delta_of : Data → (item j : ℕ) → ℤ
delta_of table item j = delta_at table.bytes.now (item_place table item) table.sizes j

-- For the first `count` deltas of a delta set, the sum of each delta times the exact scalar of its region is part / whole. `halves` is the
-- sum of each delta's size times the number of fractions among the axis scalars of its region.
pub data IsExactVariation (table : Data) (coordinates : List ℤ) (item : ℕ) : (count : ℕ) → (part : ℤ) → (whole halves : ℕ) → Type 0 where
  of_none : IsExactVariation table coordinates item 0 (pos 0) 1 0
  by_delta : (j : ℕ) (part : ℤ) (whole halves p w rounded : ℕ)
      → IsExactVariation table coordinates item j part whole halves
      → IsExactScalar table coordinates j p w rounded
      → IsExactVariation table coordinates item (suc j) ((part *ℤ pos w) +ℤ ((delta_of table item j *ℤ pos p) *ℤ pos whole)) (whole * w)
      (halves + unsigned_abs (delta_of table item j) * rounded)

-- Twice the distance of total / 65536 from part / whole is at most `halves` units of 2 ^ -16. Both inequalities are multiplied by 65536 *
-- whole.
pub record IsWithin (total part : ℤ) (whole halves : ℕ) : Type 0 where
  pub some : 0 < whole
  pub above : (total *ℤ pos (2 * whole)) ≤ℤ ((part *ℤ pos 131072) +ℤ pos (halves * whole))
  pub below : (part *ℤ pos 131072) ≤ℤ ((total *ℤ pos (2 * whole)) +ℤ pos (halves * whole))

-- The computed sum of a delta set is close to the exact sum. It is at most half a unit of 2 ^ -16 away for each unit of a delta and each
-- fraction among the axis scalars of its region. Only the scalars are rounded.
abbrev pub SumsAreNear : Type 0
SumsAreNear = (table : Data) (coordinates : List ℤ) (item : ℕ) (part : ℤ) (whole halves : ℕ)
    → IsExactVariation table coordinates item (delta_count table) part whole halves
    → IsWithin (variation_of table coordinates item) part whole halves

-- The same is true of the variation for an outer and an inner index. So it is true for advances (AdvanceVariesBy) and metrics
-- (MetricVariesBy) too.
abbrev pub VariationsAreNear : Type 0
VariationsAreNear = (store : Store) (number item : ℕ) (coordinates : List ℤ) (total part : ℤ) (whole halves : ℕ)
    → (varies : VariesBy store number item coordinates total)
    → IsExactVariation varies.table coordinates item (delta_count varies.table) part whole halves
    → IsWithin total part whole halves

-- An exact sum. If no delta is larger than `size`, `halves` is at most count * size * axes.
pub record HasExactVariation (table : Data) (coordinates : List ℤ) (item count : ℕ) : Type 0 where
  pub part : ℤ
  pub whole : ℕ
  pub halves : ℕ
  pub is : IsExactVariation table coordinates item count part whole halves
  pub most : (size : ℕ) → ((j : ℕ) → j < count → unsigned_abs (delta_of table item j) ≤ size)
      → halves ≤ count * (size * axes_of table.regions)

-- Each delta set has an exact sum, for any number of its deltas.
abbrev pub ExactVariationsAre : Type 0
ExactVariationsAre = (table : Data) (coordinates : List ℤ) (item count : ℕ) → HasExactVariation table coordinates item count

-- ---- whole numbers

-- The whole number nearest to total / 65536, or the higher one if it is halfway. Both inequalities are multiplied by 131072.
pub record IsNearestWhole (total whole : ℤ) : Type 0 where
  pub not_above : (whole *ℤ pos 131072) ≤ℤ ((total *ℤ pos 2) +ℤ pos 65536)
  pub not_below : (total *ℤ pos 2) <ℤ ((whole *ℤ pos 131072) +ℤ pos 65536)

-- the computed whole number is the only one that satisfies the definition
abbrev pub WholesAreNearest : Type 0
WholesAreNearest = (total whole : ℤ) → (in_whole total ≡ whole) ↔ IsNearestWhole total whole

-- Twice the distance of `sum` from part / whole is at most halves / 65536 units. Both inequalities are multiplied by 65536 * whole.
pub record IsNear (sum part : ℤ) (whole halves : ℕ) : Type 0 where
  pub some : 0 < whole
  pub above : (sum *ℤ pos (131072 * whole)) ≤ℤ ((part *ℤ pos 131072) +ℤ pos (halves * whole))
  pub below : (part *ℤ pos 131072) ≤ℤ ((sum *ℤ pos (131072 * whole)) +ℤ pos (halves * whole))

-- After rounding to a whole number, a sum is at most half a unit further away.
abbrev pub WholesAreNear : Type 0
WholesAreNear = (total part : ℤ) (whole halves : ℕ) → IsWithin total part whole halves
    → IsNear (in_whole total) part whole (65536 + halves)

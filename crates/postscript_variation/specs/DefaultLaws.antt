-- Laws of the default instance.
use Rattle.std.specs.Prelude.{◌≡◌, ℕ, ◌+◌, ◌<◌, ℤ, pos, List, [], slice_get, Option}
use Rattle.postscript_variation.specs.Coordinates.{coordinate_along}
use Rattle.postscript_variation.specs.Lent.{delta_count, region_of, scalar_in}
use Rattle.postscript_variation.specs.LentDeltas.{variation_of}
use Rattle.postscript_variation.specs.Scalars.{IsIgnored}
use Rattle.postscript_variation.specs.Store.{coordinate_at, span_at, told}
use Rattle.postscript_variation.specs.declared.axes.Axes.{Axes}
use Rattle.postscript_variation.specs.declared.maps.Maps.{Maps}
use Rattle.postscript_variation.specs.declared.regions.Regions.{Regions}
use Rattle.postscript_variation.specs.declared.store.Data.{Data}

-- without settings, each axis has the coordinate 0, whatever its segment map
abbrev pub DefaultsAreAsked : Type 0
DefaultsAreAsked = (axes : Axes) (maps : Option Maps) (axis : ℕ) → coordinate_along axes maps [] axis ≡ pos 0

-- each coordinate is 0
abbrev pub AreDefault : (coordinates : List ℤ) → Type 0
AreDefault coordinates = (axis : ℕ) → told (slice_get coordinates axis) ≡ pos 0

-- an axis counts for a region: it is not ignored
pub record CountsAlong (bytes : List ℕ) (place axes region axis : ℕ) : Type 0 where
  pub counts : IsIgnored (coordinate_at bytes (span_at place axes region axis)) (coordinate_at bytes (span_at place axes region axis + 2))
      (coordinate_at bytes (span_at place axes region axis + 4)) → ⊥

-- at least one axis counts for the region
pub record DependsOnAxis (regions : Regions) (region : ℕ) : Type 0 where
  pub axis : ℕ
  pub listed : axis < regions.axes
  pub counts : CountsAlong regions.bytes.now regions.place regions.axes region axis

-- if all coordinates are 0, the scalar of a region that depends on an axis is 0
abbrev pub ScalarsRest : Type 0
ScalarsRest = (regions : Regions) (coordinates : List ℤ) (region : ℕ) → AreDefault coordinates → DependsOnAxis regions region
    → scalar_in regions coordinates region ≡ 0

-- if all coordinates are 0, a delta set with only such regions has the sum 0
abbrev pub SumsRest : Type 0
SumsRest = (table : Data) (coordinates : List ℤ) (item : ℕ) → AreDefault coordinates
    → ((j : ℕ) → j < delta_count table → DependsOnAxis table.regions (region_of table j))
    → variation_of table coordinates item ≡ pos 0

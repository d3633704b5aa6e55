-- Locations of the design space, which C gives by a user coordinate for each axis (OpenType 1.9, "OpenType Font Variations Overview",
-- "Coordinate scales and normalization").
use Rattle.std.specs.Prelude.{◌≡◌, ℕ, ◌<◌, ◌≤◌, ℤ, List, [], codes, length, slice_get, Option, Some, None}
use Rattle.postscript_base.specs.Numbers.{big_endian}
use Rattle.postscript_c.specs.Axes.{HasAxes, HasBadAxes, axes_code}
use Rattle.postscript_c.specs.declared.place.Unplaced.{Unplaced}
use Rattle.postscript_c.specs.declared.place.Unplaced.TheVariants.{BadAxes, BadMaps, TooMany, Memory}
use Rattle.postscript_sfnt.specs.Lent.{HasNoTable, IsTableOf}
use Rattle.postscript_sfnt.specs.declared.file.FontFile.{FontFile}
use Rattle.postscript_variation.specs.Axes.{axis_at}
use Rattle.postscript_variation.specs.Coordinates.{mapped_with}
use Rattle.postscript_variation.specs.LentAxes.{axis_count, axis_place, bytes_of}
use Rattle.postscript_variation.specs.LentMaps.{AreMapsOf}
use Rattle.postscript_variation.specs.Normalized.{normalized, shortened}
use Rattle.postscript_variation.specs.Refusals.{NoMaps}
use Rattle.postscript_variation.specs.declared.axes.Axes.{Axes}
use Rattle.postscript_variation.specs.declared.axes.Axis.{Axis}
use Rattle.postscript_variation.specs.declared.error.Error.{Error}
use Rattle.postscript_variation.specs.declared.error.Error.TheVariants.{Cut, UnknownFormat}
use Rattle.postscript_variation.specs.declared.maps.Maps.{Maps}

abbrev pub avar : ℕ
avar = big_endian (codes "avar")

-- the segment maps of a face, or `None` if it has no `avar` table
abbrev pub HasMaps : FontFile → Option Maps → Type 0
HasMaps file None = HasNoTable file avar
HasMaps file (Some maps) = (table : List ℕ) × IsTableOf file avar table × AreMapsOf table maps

-- why its `avar` table is rejected
abbrev pub HasBadMaps : FontFile → Error → Type 0
HasBadMaps file e = (table : List ℕ) × IsTableOf file avar table × NoMaps e table

-- the value for an axis, or its default if there are too few values
abbrev pub value_along : Axis → Option ℤ → ℤ
value_along axis None = axis.default
value_along axis (Some value) = value

-- the normalized coordinate along an axis, after `avar` if there is one, with the values in the order of the axes
abbrev pub coordinate_of : Axes → Option Maps → (values : List ℤ) → (axis : ℕ) → ℤ
coordinate_of axes maps values axis =
    let found = axis_at (bytes_of axes) (axis_place axes axis) in
    let value = value_along found (slice_get values axis) in
    shortened (mapped_with maps axis (normalized found.minimum found.default found.maximum value))

-- the same along the first `count` axes
pub record AreAlong (axes : Axes) (maps : Option Maps) (values : List ℤ) (count : ℕ) (coordinates : List ℤ) : Type 0 where
  pub counted : length coordinates ≡ count
  pub each : (axis : ℕ) → axis < count → slice_get coordinates axis ≡ Some (coordinate_of axes maps values axis)

-- the same along all axes, if there are not more values than axes
abbrev pub AreNormalized : Option Axes → Option Maps → (values coordinates : List ℤ) → Type 0
AreNormalized None maps values coordinates = (values ≡ []) × (coordinates ≡ [])
AreNormalized (Some axes) maps values coordinates =
    (length values ≤ axis_count axes) × AreAlong axes maps values (axis_count axes) coordinates

-- the normalized coordinates of a location of a face
pub record AreCoordinatesAt (file : FontFile) (values coordinates : List ℤ) : Type 0 where
  pub axes : Option Axes
  pub maps : Option Maps
  pub has_axes : HasAxes file axes
  pub has_maps : HasMaps file maps
  pub normalized : AreNormalized axes maps values coordinates

-- the number of axes of a face
abbrev pub axes_in : Option Axes → ℕ
axes_in None = 0
axes_in (Some axes) = axis_count axes

-- Why values give no location: a table is rejected, there are more values than axes, or memory runs out.
abbrev pub IsUnplaced : FontFile → (values : List ℤ) → Unplaced → Type 0
IsUnplaced file values (BadAxes e) = HasBadAxes file e
IsUnplaced file values (BadMaps e) = HasBadMaps file e
IsUnplaced file values TooMany = (axes : Option Axes) × HasAxes file axes × (axes_in axes < length values)
IsUnplaced file values Memory = Unit {0}

-- the statuses of these errors
abbrev pub maps_code : Error → ℕ
maps_code Cut = 56
maps_code UnknownFormat = 57

abbrev pub unplaced_code : Unplaced → ℕ
unplaced_code (BadAxes e) = axes_code e
unplaced_code (BadMaps e) = maps_code e
unplaced_code TooMany = 53
unplaced_code Memory = 3

-- Normalized coordinates along the axes of a font (OpenType 1.9, "OpenType Font Variations Overview", "Coordinate scales and
-- normalization"). The default normalization and the segment maps of `avar` use units of 2 ^ -16, and the result is in units of 2 ^ -14.
use Rattle.std.specs.Prelude.{◌≡◌, ℕ, ◌<◌, nat_lt, if◌then◌else◌, ℤ, pos, List, slice_index_or, Option, Some, None}
use Rattle.postscript_variation.specs.Asked.{asked}
use Rattle.postscript_variation.specs.Axes.{axis_at}
use Rattle.postscript_variation.specs.LentAxes.{axis_count, axis_place, bytes_of}
use Rattle.postscript_variation.specs.LentMaps.{mapped_along}
use Rattle.postscript_variation.specs.Normalized.{normalized, shortened}
use Rattle.postscript_variation.specs.declared.axes.Axes.{Axes}
use Rattle.postscript_variation.specs.declared.axes.Axis.{Axis}
use Rattle.postscript_variation.specs.declared.coordinates.Setting.{Setting}
use Rattle.postscript_variation.specs.declared.maps.Maps.{Maps}

-- without an `avar` table the coordinate is unchanged
abbrev pub mapped_with : Option Maps → (axis : ℕ) → ℤ → ℤ
mapped_with None axis at = at
mapped_with (Some maps) axis at = mapped_along maps axis at

-- the coordinate along an axis with this record
abbrev pub coordinate_by : Axis → (axis : ℕ) → Option Maps → List Setting → ℤ
coordinate_by found axis maps settings =
    let value = asked settings found.tag found.default in
    shortened (mapped_with maps axis (normalized found.minimum found.default found.maximum value))

abbrev pub coordinate_along : Axes → Option Maps → List Setting → (axis : ℕ) → ℤ
coordinate_along axes maps settings axis =
    if nat_lt axis (axis_count axes) then coordinate_by (axis_at (bytes_of axes) (axis_place axes axis)) axis maps settings else pos 0

-- the first `count` entries of the list are the coordinates along the first axes
abbrev pub AreCoordinates : Axes → Option Maps → List Setting → (coordinates : List ℤ) → (count : ℕ) → Type 0
AreCoordinates axes maps settings coordinates count =
    (axis : ℕ) → axis < count → slice_index_or coordinates axis (pos 0) ≡ coordinate_along axes maps settings axis

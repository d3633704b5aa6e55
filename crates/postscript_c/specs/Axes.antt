-- The axes of a variable font, for C (OpenType 1.9, "fvar - Font Variations Table").
use Rattle.std.specs.Prelude.{◌≡◌, ◌⊎◌, ℕ, ◌<◌, ◌≤◌, ◌%◌, ℤ, pos, List, codes, Option, Some, None}
use Rattle.postscript_base.specs.Numbers.{big_endian}
use Rattle.postscript_c.specs.Faces.{TellsOfFace}
use Rattle.postscript_c.specs.declared.axes.PsfAxis.{PsfAxis}
use Rattle.postscript_sfnt.specs.Lent.{HasNoTable, IsTableOf}
use Rattle.postscript_sfnt.specs.declared.file.FontFile.{FontFile}
use Rattle.postscript_variation.specs.Axes.{axis_at}
use Rattle.postscript_variation.specs.LentAxes.{AreAxesOf, axis_count, axis_place, bytes_of}
use Rattle.postscript_variation.specs.Refusals.{NoAxes}
use Rattle.postscript_variation.specs.declared.axes.Axes.{Axes}
use Rattle.postscript_variation.specs.declared.axes.Axis.{Axis}
use Rattle.postscript_variation.specs.declared.error.Error.{Error}
use Rattle.postscript_variation.specs.declared.error.Error.TheVariants.{Cut, UnknownFormat}

-- the tag of a table: the big-endian number of its four characters
abbrev pub fvar : ℕ
fvar = big_endian (codes "fvar")

-- the axes and instances of a face, or `None` if it has no `fvar` table
abbrev pub HasAxes : FontFile → Option Axes → Type 0
HasAxes file None = HasNoTable file fvar
HasAxes file (Some axes) = (table : List ℕ) × IsTableOf file fvar table × AreAxesOf table axes

-- why its `fvar` table is rejected, and the status of the error
abbrev pub HasBadAxes : FontFile → Error → Type 0
HasBadAxes file e = (table : List ℕ) × IsTableOf file fvar table × NoAxes e table

abbrev pub axes_code : Error → ℕ
axes_code Cut = 54
axes_code UnknownFormat = 55

-- an axis in the form for C
abbrev pub shown : Axis → PsfAxis
shown axis = record {
  tag = axis.tag;
  minimum = axis.minimum;
  default_value = axis.default;
  maximum = axis.maximum;
  is_hidden = axis.flags % 2;
  name = axis.name;
}

-- the outputs for an axis, at one time
pub record AxisTold : Type 0 where
  pub axis : PsfAxis
  pub count : ℕ

abbrev pub axis_told : PsfAxis → ℕ → AxisTold
axis_told axis count = record { axis = axis; count = count }

-- The number of axes is stored. On 0 the axis is stored too. On 51 there are too few axes, and the axis is unchanged.
pub record TellsAxisIn (axes : Axes) (i : ℕ) (status : ℤ) (old new : AxisTold) : Type 0 where
  pub counted : new.count ≡ axis_count axes
  pub axis :
      ((status ≡ pos 0) × (i < axis_count axes) × (new.axis ≡ shown (axis_at (bytes_of axes) (axis_place axes i))))
      ⊎ ((status ≡ pos 51) × (axis_count axes ≤ i) × (new.axis ≡ old.axis))

-- The result for an axis of a face. If the face has no `fvar` table (36), or the table is rejected, all outputs are unchanged.
abbrev pub TellsAxisOf : FontFile → (i : ℕ) (status : ℤ) (old new : AxisTold) → Type 0
TellsAxisOf file i status old new =
    ((axes : Axes) × HasAxes file (Some axes) × TellsAxisIn axes i status old new)
    ⊎ (((status ≡ pos 36) × HasAxes file None × (new ≡ old))
    ⊎ ((e : Error) × (status ≡ pos (axes_code e)) × HasBadAxes file e × (new ≡ old)))

-- the status and the outputs for an axis of a face of a file
abbrev pub TellsAxis : (bytes : List ℕ) (face i : ℕ) (status : ℤ) (old new : AxisTold) → Type 0
TellsAxis bytes face i status old new = TellsOfFace bytes face status (λ file. TellsAxisOf file i status old new) (new ≡ old)

-- The named instances of a variable font, for C (OpenType 1.9, "fvar - Font Variations Table", "InstanceRecord").
use Rattle.std.specs.Prelude.{◌≡◌, ◌⊎◌, ℕ, ◌+◌, ◌*◌, ◌<◌, ◌≤◌, ◌==◌, if◌then◌else◌, ℤ, pos, negsuc, List, length, slice_get, Option, Some, None}
use Rattle.postscript_c.specs.Axes.{HasAxes, HasBadAxes, axes_code}
use Rattle.postscript_c.specs.Faces.{TellsOfFace}
use Rattle.postscript_c.specs.Texts.{HandsOver, lent}
use Rattle.postscript_c.specs.declared.instances.PsfInstance.{PsfInstance}
use Rattle.postscript_sfnt.specs.declared.file.FontFile.{FontFile}
use Rattle.postscript_variation.specs.Axes.{IsInstance, fixed_at}
use Rattle.postscript_variation.specs.LentAxes.{axis_count, bytes_of, instance_count, instance_place, instance_size}
use Rattle.postscript_variation.specs.declared.axes.Axes.{Axes}
use Rattle.postscript_variation.specs.declared.axes.Instance.{Instance}
use Rattle.postscript_variation.specs.declared.error.Error.{Error}

-- the identifier of a PostScript name, or -1 if the record has none or 65535, which means no name
abbrev pub name_or_none : Option ℕ → ℤ
name_or_none None = negsuc 0
name_or_none (Some name) = if name == 65535 then negsuc 0 else pos name

-- an instance in the form for C
abbrev pub shown : Instance → PsfInstance
shown instance = record { name = instance.name; flags = instance.flags; postscript_name = name_or_none instance.postscript_name }

-- the user coordinates of an instance along the first `count` axes
pub record AreCoordinatesOf (axes : Axes) (i count : ℕ) (coordinates : List ℤ) : Type 0 where
  pub counted : length coordinates ≡ count
  pub each : (axis : ℕ) → axis < count → slice_get coordinates axis ≡ Some (fixed_at (bytes_of axes) (instance_place axes i + 4 + axis * 4))

-- the buffer and the outputs for an instance, at one time
pub record InstanceRoom : Type 0 where
  pub instance : PsfInstance
  pub room : List ℤ
  pub count : ℕ

abbrev pub instance_room : PsfInstance → List ℤ → ℕ → InstanceRoom
instance_room instance room count = record { instance = instance; room = room; count = count }

-- The instance and the number of its coordinates are stored. On 0 the coordinates are stored too, and on 32 they do not fit into the
-- buffer.
pub record HandsInstance (axes : Axes) (i : ℕ) (status : ℤ) (old new : InstanceRoom) : Type 0 where
  pub instance : Instance
  pub coordinates : List ℤ
  pub there : i < instance_count axes
  pub is : IsInstance (bytes_of axes) (instance_place axes i) (axis_count axes) (instance_size axes) instance
  pub told : new.instance ≡ shown instance
  pub are : AreCoordinatesOf axes i (axis_count axes) coordinates
  pub handed : HandsOver coordinates status (lent old.room old.count) (lent new.room new.count)

-- The instance is stored. Otherwise there are too few instances (52), or there is no memory (3), and all outputs are unchanged.
abbrev pub TellsInstanceIn : Axes → (i : ℕ) (status : ℤ) (old new : InstanceRoom) → Type 0
TellsInstanceIn axes i status old new =
    HandsInstance axes i status old new
    ⊎ (((status ≡ pos 52) × (instance_count axes ≤ i) × (new ≡ old)) ⊎ ((status ≡ pos 3) × (new ≡ old)))

-- The result for an instance of a face. If the face has no `fvar` table (36), or the table is rejected, all outputs are unchanged.
abbrev pub TellsInstanceOf : FontFile → (i : ℕ) (status : ℤ) (old new : InstanceRoom) → Type 0
TellsInstanceOf file i status old new =
    ((axes : Axes) × HasAxes file (Some axes) × TellsInstanceIn axes i status old new)
    ⊎ (((status ≡ pos 36) × HasAxes file None × (new ≡ old))
    ⊎ ((e : Error) × (status ≡ pos (axes_code e)) × HasBadAxes file e × (new ≡ old)))

-- the status and the outputs for a named instance of a face of a file
abbrev pub TellsInstance : (bytes : List ℕ) (face i : ℕ) (status : ℤ) (old new : InstanceRoom) → Type 0
TellsInstance bytes face i status old new = TellsOfFace bytes face status (λ file. TellsInstanceOf file i status old new) (new ≡ old)

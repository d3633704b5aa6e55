-- What is asked for, and the coordinates of it.
use Rattle.std.proofs.Common.{◌≡◌, inl, inr, ℕ, ◌+◌, ◌<◌, ℤ, pos, List, length, slice_get, slice_set, Option, ap, sym, ◌∙◌, add-one, arith}
use Rattle.std.proofs.lemmas.Bool.{cases_eq}
use Rattle.std.proofs.lemmas.List.{get_or-set_same, get_or-set_other}
use Rattle.postscript_variation.specs.Asked.{asked_by, chosen}
use Rattle.postscript_variation.specs.Axes.{axis_at}
use Rattle.postscript_variation.specs.Coordinates.{AreCoordinates, coordinate_along, coordinate_by}
use Rattle.postscript_variation.specs.LentAxes.{axis_count, axis_place, bytes_of}
use Rattle.postscript_variation.specs.declared.axes.Axes.{Axes}
use Rattle.postscript_variation.specs.declared.axes.Axis.{Axis}
use Rattle.postscript_variation.specs.declared.coordinates.Setting.{Setting}
use Rattle.postscript_variation.specs.declared.maps.Maps.{Maps}
use Rattle.postscript_variation.proofs.Deciding.{less}

pub by_one_more : (settings : List Setting) (tag k : ℕ) (standard value : ℤ) → value ≡ asked_by settings tag standard k
    → chosen (slice_get settings k) tag value ≡ asked_by settings tag standard (k + 1)
by_one_more settings tag k standard value e = rw e (ap (asked_by settings tag standard) (sym (add-one k)))

-- the coordinate along an axis by its record
pub along : (axes : Axes) (maps : Option Maps) (settings : List Setting) (axis : ℕ) (found : Axis)
    → axis < axis_count axes → found ≡ axis_at (bytes_of axes) (axis_place axes axis)
    → coordinate_by found axis maps settings ≡ coordinate_along axes maps settings axis
along axes maps settings axis found h is = rw (less axis (axis_count axes) h) (ap (λ axis'. coordinate_by axis' axis maps settings) is)

-- the list by one coordinate more
pub one_more : (axes : Axes) (maps : Option Maps) (settings : List Setting) (coordinates : List ℤ) (axis : ℕ) (value : ℤ)
    → AreCoordinates axes maps settings coordinates axis → axis < length coordinates → value ≡ coordinate_along axes maps settings axis
    → AreCoordinates axes maps settings (slice_set coordinates axis value) (axis + 1)
one_more axes maps settings coordinates axis value so_far h e k b =
    elim (cases_eq k axis) [
      | inl same ↦ rw same (get_or-set_same coordinates axis value (pos 0) h ∙ e)
      | inr other ↦ get_or-set_other coordinates axis k value (pos 0) other ∙ so_far k (omega (arith, other))
    ]

-- The work that the tables of a variable font make. The limits are no rule of the specification: they bound the time of the calls.
use Rattle.std.specs.Prelude.{◌≡◌, ◌⊎◌, ℕ, ◌+◌, ◌*◌, ◌<◌, ◌≤◌, List, codes, length, min, unwrap_or, slice_get, Option, Some, None, IsSome}
use Rattle.postscript_base.specs.Index.{number_at}
use Rattle.postscript_cff2.specs.Dictionary.{offset_of}
use Rattle.postscript_cff2.specs.Shown.{view_shown}
use Rattle.postscript_instance_file.specs.Faces.{hvar_tag}
use Rattle.postscript_instance_file.specs.declared.face.VariableFace.{VariableFace}
use Rattle.postscript_instance_file.specs.declared.weight.TheConstants.{MOST, SCALARS, STEPS}
use Rattle.postscript_sfnt.specs.Lent.{IsTableOf}
use Rattle.postscript_variation.specs.Lent.{HasNoTable, IsDataIn, IsStoreAt, delta_count, table_count}
use Rattle.postscript_variation.specs.LentAxes.{axis_count, instance_count}
use Rattle.postscript_variation.specs.declared.axes.Axes.{Axes}
use Rattle.postscript_variation.specs.declared.store.Data.{Data}
use Rattle.postscript_variation.specs.declared.store.Store.{Store}

-- the number of axes, and of named instances; without an `fvar` table there are none
abbrev pub axes_in : Option Axes → ℕ
axes_in None = 0
axes_in (Some axes) = axis_count axes

abbrev pub instances_in : Option Axes → ℕ
instances_in None = 0
instances_in (Some axes) = instance_count axes

-- the size of the Private DICT that a Font DICT names by `Private`, operator 18, at most that of the table
abbrev pub private_size : (cff2 dictionary : List ℕ) → ℕ
private_size cff2 dictionary = min (unwrap_or (offset_of dictionary 18) 0) (length cff2)

-- A Font DICT and its Private DICT have so many bytes that reading them for each glyph takes too many steps.
pub record HasLongDictionary (face : VariableFace) : Type 0 where
  pub number : ℕ
  pub dictionary : List ℕ
  pub is : slice_get (view_shown face.font).font_dictionaries number ≡ Some dictionary
  pub long : STEPS < (private_size face.font.bytes.now dictionary + length dictionary) * face.glyphs

-- the number of regions that the item variation data with a number use; missing data use none
abbrev pub UseRegions : Store → (number regions : ℕ) → Type 0
UseRegions store number regions =
    ((table : Data) × IsDataIn store number table × (regions ≡ delta_count table)) ⊎ (HasNoTable store number × (regions ≡ 0))

-- the first `count` item variation data of a store use this number of regions in all
pub data UseInAll (store : Store) : (count total : ℕ) → Type 0 where
  none : UseInAll store 0 0
  one_more : (count total regions : ℕ) → UseInAll store count total → UseRegions store count regions → UseInAll store (count + 1) (total + regions)

-- A location has too many scalars, one for each region that item variation data use. Or it takes too many steps: for each scalar one, and
-- one for each axis.
abbrev pub HasManyScalars : Option Store → (axes : ℕ) → Type 0
HasManyScalars None axes = ⊥
HasManyScalars (Some store) axes =
    (total : ℕ) × UseInAll store (table_count store) total × ((SCALARS < total) ⊎ (STEPS < total * (axes + 1)))

-- Item variation data use so many regions that this number of sums with them takes too many steps.
pub record HasWideData (store : Store) (sums : ℕ) : Type 0 where
  pub number : ℕ
  pub regions : ℕ
  pub there : number < table_count store
  pub use_them : UseRegions store number regions
  pub wide : STEPS < regions * sums

-- No item variation data use so many regions.
abbrev pub HasNarrowData : Store → (sums : ℕ) → Type 0
HasNarrowData store sums = (number : ℕ) → number < table_count store → (regions : ℕ) × UseRegions store number regions × (regions * sums ≤ STEPS)

-- The advances of all glyphs take too many steps: for each glyph and each region of item variation data of `HVAR` one, and one for each
-- axis.
pub record HasManyDeltas (face : VariableFace) : Type 0 where
  pub varies : IsSome face.variations
  pub hvar : List ℕ
  pub table : IsTableOf face.file hvar_tag hvar
  pub store : Store
  pub is_store : IsStoreAt hvar (number_at hvar 4 4) store
  pub wide : HasWideData store ((axes_in face.axes + 1) * face.glyphs)

-- The table with this name makes too much work.
pub data IsHeavy (face : VariableFace) (name : List ℕ) : Type 0 where
  many_axes : name ≡ codes "fvar" → MOST < axes_in face.axes → IsHeavy face name
  many_instances : name ≡ codes "fvar" → MOST < instances_in face.axes → IsHeavy face name
  long_dictionary : name ≡ codes "CFF2" → HasLongDictionary face → IsHeavy face name
  many_scalars : name ≡ codes "CFF2" → HasManyScalars face.font.store (axes_in face.axes) → IsHeavy face name
  many_deltas : name ≡ codes "HVAR" → HasManyDeltas face → IsHeavy face name

-- No table makes too much work.
abbrev pub IsLight : VariableFace → Type 0
IsLight face = (name : List ℕ) → IsHeavy face name → ⊥

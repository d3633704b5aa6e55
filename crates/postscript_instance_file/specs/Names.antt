-- The names of a static font (ISO/IEC 14496-22, `name` table, and Adobe's Technical Note 5902).
use Rattle.std.specs.Prelude.{◌≡◌, ◌⊎◌, ℕ, ◌+◌, ◌<◌, ◌≤◌, List, [], ◌∷◌, ◌++◌, Option, None, Some, map, min, unwrap_or}
use Rattle.std.specs.List.{Contains}
use Rattle.std.specs.List.Sorted.{IsPermutation}
use Rattle.postscript_instance_file.specs.Faces.{IsTableOrNone, name_tag}
use Rattle.postscript_instance_file.specs.declared.face.VariableFace.{VariableFace}
use Rattle.postscript_text.specs.NameTables.{Has, HaveNoSpace, IsRecordAt, word_at}
use Rattle.postscript_text.specs.declared.names.Record.{Record}
use Rattle.postscript_variation.specs.Axes.{IsInstance, axis_at}
use Rattle.postscript_variation.specs.LentAxes.{axis_count, axis_place, bytes_of, instance_count, instance_place, instance_size}
use Rattle.postscript_variation.specs.declared.axes.Axes.{Axes}
use Rattle.postscript_variation.specs.declared.axes.Instance.{Instance}

-- an axis has its name under this identifier
abbrev pub NamesAxis : Axes → (identifier : ℕ) → Type 0
NamesAxis axes identifier = (i : ℕ) × (i < axis_count axes) × ((axis_at (bytes_of axes) (axis_place axes i)).name ≡ identifier)

-- a named instance has its name or its PostScript name under this identifier
abbrev pub NamesInstance : Axes → (identifier : ℕ) → Type 0
NamesInstance axes identifier =
    (i : ℕ) × (instance : Instance) × (i < instance_count axes)
    × IsInstance (bytes_of axes) (instance_place axes i) (axis_count axes) (instance_size axes) instance
    × ((instance.name ≡ identifier) ⊎ (unwrap_or instance.postscript_name 0 ≡ identifier))

abbrev pub NamesVariation : Option Axes → (identifier : ℕ) → Type 0
NamesVariation None identifier = ⊥
NamesVariation (Some axes) identifier = NamesAxis axes identifier ⊎ NamesInstance axes identifier

-- The identifiers of names that are new, or that a static font does not have: family, style, unique name, full name and PostScript name,
-- typographic family and style, names for Macintosh and CIDs, WWS names, and the variations prefix.
abbrev pub replaced : List ℕ
replaced = 1 ∷ 2 ∷ 3 ∷ 4 ∷ 6 ∷ 16 ∷ 17 ∷ 18 ∷ 20 ∷ 21 ∷ 22 ∷ 25 ∷ []

-- A static font keeps a record if its language has a number, its name is not replaced, and it is not the name of an axis or an instance.
pub record IsKept (axes : Option Axes) (entry : Record) : Type 0 where
  pub language : entry.language < 0x8000
  pub other : Has replaced entry.identifier → ⊥
  pub own : 256 ≤ entry.identifier → NamesVariation axes entry.identifier → ⊥

-- the records that are kept among the first `count` records of a table, in order; a record without its whole text is left out
pub data AreKept (axes : Option Axes) (table : List ℕ) : (count : ℕ) → List Record → Type 0 where
  none : AreKept axes table 0 []
  kept : (count : ℕ) (records : List Record) (entry : Record) → AreKept axes table count records → IsRecordAt table count entry →
      IsKept axes entry → AreKept axes table (count + 1) (records ++ entry ∷ [])
  left_out : (count : ℕ) (records : List Record) → AreKept axes table count records →
      ((entry : Record) → IsRecordAt table count entry → IsKept axes entry → ⊥) → AreKept axes table (count + 1) records

-- The identifiers of the new names are those of a style that a family links, or also those of the typographic family and style.
pub data AreNew : List ℕ → Type 0 where
  linked : AreNew (1 ∷ 2 ∷ 3 ∷ 4 ∷ 6 ∷ [])
  not_linked : AreNew (1 ∷ 2 ∷ 3 ∷ 4 ∷ 6 ∷ 16 ∷ 17 ∷ [])

-- a record in US English for Windows
abbrev pub IsInEnglish : Record → Type 0
IsInEnglish entry = (entry.platform ≡ 3) × (entry.encoding ≡ 1) × (entry.language ≡ 0x409)

-- The records of a static font are those that are kept of at most 1,000 records, and those of the new names. No rule says which texts the
-- new names have.
pub record AreNames (axes : Option Axes) (table : List ℕ) (records : List Record) : Type 0 where
  pub kept : List Record
  pub are_kept : AreKept axes table (min (word_at table 2) 1000) kept
  pub new : List Record
  pub are_new : AreNew (map (λ entry. entry.identifier) new)
  pub in_english : (entry : Record) → Contains new entry → IsInEnglish entry
  pub sorted : IsPermutation (kept ++ new) records

-- A `name` table has no space for the names of a static font.
pub record HasLongNames (face : VariableFace) : Type 0 where
  pub table : List ℕ
  pub is_table : IsTableOrNone face.file name_tag table
  pub records : List Record
  pub are : AreNames face.axes table records
  pub long : HaveNoSpace records

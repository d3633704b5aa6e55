-- Variable fonts of files, and locations in their design space (OpenType 1.9, "OpenType Font Variations Overview").
use Rattle.std.specs.Prelude.{◌≡◌, ◌⊎◌, ℕ, ℤ, List, [], Option, None, Some, length}
use Rattle.std.specs.Int.{int_max, int_min}
use Rattle.postscript_cff2.specs.Layout.{IsLaidOut}
use Rattle.postscript_cff2.specs.Shown.{view_shown}
use Rattle.postscript_sfnt.specs.Lent.{AreAdvancesOf as AreRowsOf, HasNoTable, IsFaceOf, IsTableOf}
use Rattle.postscript_sfnt.specs.NameTable.{HasNoName, HasRecords, IsName, table_of}
use Rattle.postscript_sfnt.specs.declared.file.FontFile.{FontFile}
use Rattle.postscript_sfnt.specs.declared.metrics.Advances.{Advances}
use Rattle.postscript_sfnt.specs.declared.names.Name.{Name}
use Rattle.postscript_sfnt.specs.declared.names.Names.{Names}
use Rattle.postscript_variation.specs.Asked.{asked}
use Rattle.postscript_variation.specs.Coordinates.{AreCoordinates}
use Rattle.postscript_variation.specs.LentAdvances.{AreAdvancesOf}
use Rattle.postscript_variation.specs.LentAxes.{AreAxesOf, axis_count}
use Rattle.postscript_variation.specs.LentMaps.{AreMapsOf}
use Rattle.postscript_variation.specs.declared.axes.Axes.{Axes}
use Rattle.postscript_variation.specs.declared.axes.Axis.{Axis}
use Rattle.postscript_variation.specs.declared.coordinates.Setting.{Setting}
use Rattle.postscript_variation.specs.declared.maps.Maps.{Maps}
use Rattle.postscript_instance_file.specs.declared.face.VariableFace.{VariableFace}
use Rattle.postscript_instance_file.specs.declared.location.Location.{Location}

-- tags of tables
abbrev pub cff2_tag : ℕ
cff2_tag = 0x43464632

abbrev pub hhea_tag : ℕ
hhea_tag = 0x68686561

abbrev pub hmtx_tag : ℕ
hmtx_tag = 0x686d7478

abbrev pub maxp_tag : ℕ
maxp_tag = 0x6d617870

abbrev pub fvar_tag : ℕ
fvar_tag = 0x66766172

abbrev pub avar_tag : ℕ
avar_tag = 0x61766172

abbrev pub hvar_tag : ℕ
hvar_tag = 0x48564152

abbrev pub mvar_tag : ℕ
mvar_tag = 0x4d564152

abbrev pub name_tag : ℕ
name_tag = 0x6e616d65

-- what a table of the face has, or nothing if the face has no such table
abbrev pub IsRead : {X : Type 0} → FontFile → (tag : ℕ) → (Is : List ℕ → X → Type 0) → Option X → Type 0
IsRead file tag Is None = HasNoTable file tag
IsRead file tag Is (Some read) = (table : List ℕ) × IsTableOf file tag table × Is table read

-- the table with this tag, or no bytes if the face has no such table
abbrev pub IsTableOrNone : FontFile → (tag : ℕ) → List ℕ → Type 0
IsTableOrNone file tag table = IsTableOf file tag table ⊎ (HasNoTable file tag × (table ≡ []))

-- the advance widths of a face
abbrev pub HasAdvances : FontFile → Advances → Type 0
HasAdvances file advances =
    (hhea : List ℕ) × (hmtx : List ℕ) × IsTableOf file hhea_tag hhea × IsTableOf file hmtx_tag hmtx × AreRowsOf hhea hmtx advances

-- the names in the `name` table, or nothing if the face has no such table, or if its records extend past its end
abbrev pub AreNames : FontFile → Option Names → Type 0
AreNames file None = HasNoTable file name_tag ⊎ ((table : List ℕ) × IsTableOf file name_tag table × (HasRecords table → ⊥))
AreNames file (Some names) = (table : List ℕ) × IsTableOf file name_tag table × HasRecords table × (table_of names ≡ table)

-- The font of a face, with what its own tables say.
pub record IsVariableFace (file : FontFile) (face : VariableFace) : Type 0 where
  pub same : face.file ≡ file
  pub cff2 : List ℕ
  pub table : IsTableOf file cff2_tag cff2
  pub lent : face.font.bytes.now ≡ cff2
  pub laid_out : IsLaidOut cff2 (view_shown face.font)
  pub advances : HasAdvances file face.advances
  pub names : AreNames file face.names
  pub axes : IsRead file fvar_tag AreAxesOf face.axes
  pub maps : IsRead file avar_tag AreMapsOf face.maps
  pub variations : IsRead file hvar_tag AreAdvancesOf face.variations

-- the font of the face of a file with this number
pub record IsFoundFace (bytes : List ℕ) (number : ℕ) (face : VariableFace) : Type 0 where
  pub file : FontFile
  pub found : IsFaceOf bytes number file
  pub is : IsVariableFace file face

-- a normalized coordinate for each axis: that of its setting, or of its default
abbrev pub AreNormalized : Option Axes → Option Maps → List Setting → (coordinates : List ℤ) → Type 0
AreNormalized None maps settings coordinates = coordinates ≡ []
AreNormalized (Some axes) maps settings coordinates =
    (length coordinates ≡ axis_count axes) × AreCoordinates axes maps settings coordinates (axis_count axes)

-- the location of these settings in the design space of a face
abbrev pub IsAt : VariableFace → List Setting → Location → Type 0
IsAt face settings location = AreNormalized face.axes face.maps settings location.coordinates.items

-- the name with this identifier, and that there is none
abbrev pub IsNamed : Option Names → (identifier : ℕ) → Name → Type 0
IsNamed None identifier name = ⊥
IsNamed (Some names) identifier name = IsName (table_of names) identifier name

abbrev pub IsUnnamed : Option Names → (identifier : ℕ) → Type 0
IsUnnamed None identifier = Unit {0}
IsUnnamed (Some names) identifier = HasNoName (table_of names) identifier

-- the value of an axis: that of the last setting with its tag, or the default, clamped to the axis
abbrev pub value_along : Axis → List Setting → ℤ
value_along axis settings = int_min (int_max (asked settings axis.tag axis.default) axis.minimum) axis.maximum

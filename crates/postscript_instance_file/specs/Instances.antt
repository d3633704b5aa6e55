-- Static font files of locations of variable fonts (OpenType 1.9, "OpenType Font Variations Overview").
use Rattle.std.specs.Prelude.{◌≡◌, ℕ, ℤ, Bool, true, false, List, length}
use Rattle.std.specs.List.{Contains}
use Rattle.std.specs.List.Sorted.{IsPermutation}
use Rattle.postscript_cff2.specs.declared.font.Font.{Font}
use Rattle.postscript_instance.specs.Tables.{IsRoundedTableOf, IsTableOf}
use Rattle.postscript_instance.specs.declared.advances.AdvancesAt.{AdvancesAt}
use Rattle.postscript_instance.specs.declared.naming.Naming.{Naming}
use Rattle.postscript_sfnt_write.specs.Files.{AreLent, Opens}
use Rattle.postscript_sfnt_write.specs.declared.file.Table.{Table}
use Rattle.postscript_instance_file.specs.Faces.{IsAt, IsFoundFace}
use Rattle.postscript_variation.specs.declared.coordinates.Setting.{Setting}
use Rattle.postscript_instance_file.specs.declared.face.VariableFace.{VariableFace}
use Rattle.postscript_instance_file.specs.declared.location.Location.{Location}
use Rattle.postscript_instance_file.specs.Weights.{IsLight}

-- the tag of the `CFF ` table
abbrev pub cff_tag : ℕ
cff_tag = 0x43464620

-- One of the tables is the `CFF ` table, with these bytes.
pub record HaveFont (tables : List Table) (font : List ℕ) : Type 0 where
  pub table : Table
  pub there : Contains tables table
  pub tag : table.tag ≡ cff_tag
  pub bytes : table.bytes.now ≡ font

-- The file has one face, which opens with exactly these tables, byte for byte. They are in another order.
pub record IsFileOf (tables : List Table) (file : List ℕ) : Type 0 where
  pub sorted : List Table
  pub moved : IsPermutation tables sorted
  pub opens : Opens file (length sorted)
  pub lent : AreLent file sorted

-- a file of tables with this `CFF ` table
pub record IsFileWith (font file : List ℕ) : Type 0 where
  pub tables : List Table
  pub have : HaveFont tables font
  pub written : IsFileOf tables file

-- the advance widths of a face at a location
pub record AreAdvancesAt (face : VariableFace) (at : List ℤ) (advances : AdvancesAt) : Type 0 where
  pub default : advances.default ≡ face.advances
  pub variations : advances.variations ≡ face.variations
  pub coordinates : advances.coordinates.now ≡ at

-- a `CFF ` table with the glyphs at the location; if it is rounded, each point is a whole number of units
abbrev pub IsTableBy : (rounded : Bool) → Font → Naming → AdvancesAt → List ℕ → Type 0
IsTableBy true font naming advances table = IsRoundedTableOf font naming advances table
IsTableBy false font naming advances table = IsTableOf font naming advances table

-- a `CFF ` table of a face at a location, with some names
pub record IsFontAt (rounded : Bool) (face : VariableFace) (location : Location) (font : List ℕ) : Type 0 where
  pub naming : Naming
  pub advances : AdvancesAt
  pub are : AreAdvancesAt face location.coordinates.items advances
  pub is : IsTableBy rounded face.font naming advances font

-- a file of a face at a location
pub record IsStaticFont (rounded : Bool) (face : VariableFace) (location : Location) (file : List ℕ) : Type 0 where
  pub font : List ℕ
  pub is : IsFontAt rounded face location font
  pub has : IsFileWith font file

-- a file of a face of another file, at the location of some settings; no table of that face makes too much work
pub record IsInstanceFile (rounded : Bool) (bytes : List ℕ) (number : ℕ) (settings : List Setting) (file : List ℕ) : Type 0 where
  pub face : VariableFace
  pub found : IsFoundFace bytes number face
  pub light : IsLight face
  pub location : Location
  pub at : IsAt face settings location
  pub is : IsStaticFont rounded face location file

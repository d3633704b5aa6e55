-- The `name` tables of new files (ISO/IEC 14496-22), with fewer records than the old ones.
use Rattle.std.specs.Prelude.{◌≡◌, ◌≢◌, ℕ, ◌<◌, Bool, true, false, List, [], ◌∷◌}
use Rattle.postscript_files.specs.declared.choice.Given.{Given}
use Rattle.postscript_sfnt.specs.Lent.{HasNoTable, IsFaceOf, IsTableOf}
use Rattle.postscript_sfnt.specs.NameTable.{HasRecords}
use Rattle.postscript_sfnt.specs.Refusals.{NoFace}
use Rattle.postscript_sfnt.specs.declared.error.Error.{Error as FileError}
use Rattle.postscript_sfnt.specs.declared.file.FontFile.{FontFile}
use Rattle.postscript_text.specs.NameTables.{AreChosen, HaveNoSpace, IsNameTable, word_at}
use Rattle.postscript_text.specs.declared.names.Record.{Record}

-- the tag `name`
abbrev pub name_tag : ℕ
name_tag = 0x6e616d65

-- The short table has the chosen records in order: names that are read, and with `licence` also those about the licence. The table is copied
-- if its records extend past its end, if there are more than 1,000, or if a table has no space for the chosen ones.
pub data IsShort (table : List ℕ) (licence : Bool) (new : List ℕ) : Type 0 where
  short : (records : List Record) → AreChosen table licence (word_at table 2) records → IsNameTable records new → IsShort table licence new
  cut : (HasRecords table → ⊥) → new ≡ table → IsShort table licence new
  long : 1000 < word_at table 2 → new ≡ table → IsShort table licence new
  no_space : (records : List Record) → AreChosen table licence (word_at table 2) records → HaveNoSpace records → new ≡ table →
      IsShort table licence new

-- 1 asks for a table without names about the licence, and a greater number for one with them
abbrev pub IsLicence : (names : ℕ) → Bool → Type 0
IsLicence names true = 1 < names
IsLicence names false = names ≡ 1

-- the face has a `name` table, and this is true of it
abbrev pub OfNames : (bytes : List ℕ) (face : ℕ) → (List ℕ → Type 0) → Type 0
OfNames bytes face P = (file : FontFile) × IsFaceOf bytes face file × ((table : List ℕ) × IsTableOf file name_tag table × P table)

-- one table is given: the short `name` table that is asked for
pub record IsGivenShort (table : List ℕ) (names : ℕ) (given : List Given) : Type 0 where
  pub licence : Bool
  pub asked : IsLicence names licence
  pub one : Given
  pub all : given ≡ one ∷ []
  pub tagged : one.tag ≡ name_tag
  pub is : IsShort table licence one.bytes.items

-- The tables that are given to a new file. There is none if 0 is asked for, if there is no such face, or if it has no `name` table. Otherwise
-- there is one, the short `name` table of the face.
pub data AreNames (names : ℕ) (bytes : List ℕ) (face : ℕ) : List Given → Type 0 where
  not_asked : names ≡ 0 → AreNames names bytes face []
  no_face : names ≢ 0 → (e : FileError) → NoFace e bytes face → AreNames names bytes face []
  no_table : names ≢ 0 → (file : FontFile) → IsFaceOf bytes face file → HasNoTable file name_tag → AreNames names bytes face []
  shortened : (given : List Given) → OfNames bytes face (λ table. IsGivenShort table names given) → AreNames names bytes face given

-- a `name` table is asked for, and the face has one; only then memory is needed for it
abbrev pub NeedsNames : (names : ℕ) (bytes : List ℕ) (face : ℕ) → Type 0
NeedsNames names bytes face = (names ≢ 0) × OfNames bytes face (λ table. Unit {0})

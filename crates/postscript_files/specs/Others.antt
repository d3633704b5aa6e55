-- The tables of a face that are copied. Only private contracts and proofs use these definitions.
use Rattle.std.specs.Prelude.{◌≡◌, ◌≢◌, ◌⊎◌, ℕ, ◌<◌, List, length}
use Rattle.postscript_sfnt.specs.Lent.{HasNoTable, IsFaceOf, IsTableOf, tables_of, tag_of}
use Rattle.postscript_sfnt.specs.declared.file.FontFile.{FontFile}
use Rattle.postscript_sfnt_write.specs.Files.{IsSoundFile, Opens}
use Rattle.postscript_sfnt_write.specs.Tables.{IsGiven}
use Rattle.postscript_sfnt_write.specs.declared.file.Table.{Table}
use Rattle.postscript_files.specs.Copies.{HasCopy}
use Rattle.postscript_files.specs.Faces.{cff_tag}
use Rattle.postscript_files.specs.declared.error.Error.{Error}
use Rattle.postscript_files.specs.declared.error.Error.TheVariants.{Memory, Overlap, TooLarge}
use Rattle.postscript_files.specs.Flats.{IsFlatTooLarge, Stays, StayingHaveMore, dsig_tag}

-- there is a table with the tag
abbrev pub Has : List Table → (tag : ℕ) → Type 0
Has tables tag = (k : ℕ) × (t : Table) × IsGiven tables k t × (t.tag ≡ tag)

-- The first table is `CFF ` with these bytes. The others are tables of the face that stay.
pub record AreOthers (file : FontFile) (font : List ℕ) (tables : List Table) : Type 0 where
  pub first : (t : Table) → IsGiven tables 0 t → (t.tag ≡ cff_tag) × (t.bytes.now ≡ font)
  pub some : 0 < length tables
  pub rest : (k : ℕ) (t : Table) → 0 < k → IsGiven tables k t → Stays t.tag × IsTableOf file t.tag t.bytes.now
  pub once : (i j : ℕ) (a b : Table) → i < j → IsGiven tables i a → IsGiven tables j b → a.tag ≢ b.tag

-- the tables of the first records are in the list, apart from the signature
abbrev pub AreListedTo : FontFile → (i : ℕ) → List Table → Type 0
AreListedTo file i tables = (k : ℕ) → k < i → tag_of file k ≢ dsig_tag → (table : List ℕ) → IsTableOf file (tag_of file k) table →
    Has tables (tag_of file k)

-- the tables of a new face: this one, and copies of those of the old one that stay
pub record HasOthers (old : FontFile) (font : List ℕ) (new : FontFile) : Type 0 where
  pub has : IsTableOf new cff_tag font
  pub others : (tag : ℕ) (table : List ℕ) → Stays tag → IsTableOf old tag table → HasCopy new tag table
  pub only : (i : ℕ) → i < tables_of new → (tag_of new i ≡ cff_tag) ⊎ (Stays (tag_of new i) × (HasNoTable old (tag_of new i) → ⊥))

pub record IsFileWith (old : FontFile) (font bytes : List ℕ) : Type 0 where
  pub opens : (count : ℕ) × Opens bytes count
  pub sound : IsSoundFile bytes
  pub is : (new : FontFile) → IsFaceOf bytes 0 new → HasOthers old font new

-- why no file with this `CFF ` table is written, if the tables that are copied may have this number of bytes
abbrev pub IsUnwritten : (old : FontFile) → (most : ℕ) → (font : List ℕ) → Error → Type 0
IsUnwritten old most font Memory = Unit {0}
IsUnwritten old most font Overlap = StayingHaveMore old most
IsUnwritten old most font TooLarge = IsFlatTooLarge old font
IsUnwritten old most font _ = ⊥

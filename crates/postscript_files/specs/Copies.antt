-- Tables that are copied from one file to another (ISO/IEC 14496-22, 4.5).
use Rattle.std.specs.Prelude.{◌≡◌, ◌≢◌, ◌⊎◌, ℕ, ◌+◌, ◌<◌, ◌≤◌, ◌^◌, ◌==◌, List, length, take, drop, if◌then◌else◌}
use Rattle.std.specs.List.{sum_by}
use Rattle.std.specs.List.Sorted.{IsPermutation}
use Rattle.postscript_sfnt.specs.Lent.{IsFaceOf, IsTableOf, tables_of, tag_of}
use Rattle.postscript_sfnt.specs.declared.file.FontFile.{FontFile}
use Rattle.postscript_sfnt_write.specs.Files.{IsSoundFile, Opens}
use Rattle.postscript_sfnt_write.specs.Tables.{IsGiven, size_of}
use Rattle.postscript_sfnt_write.specs.declared.file.Table.{Table}
use Rattle.postscript_files.specs.declared.error.Error.{Error}
use Rattle.postscript_files.specs.declared.error.Error.TheVariants.{Memory, SameTag, TooLarge}

-- The same bytes, apart from the four bytes of checkSumAdjustment in `head`, which depend on the whole file.
pub record IsCopy (tag : ℕ) (old new : List ℕ) : Type 0 where
  pub size : length new ≡ length old
  pub same : tag ≢ 0x68656164 → new ≡ old
  pub front : take 8 new ≡ take 8 old
  pub after : drop 12 new ≡ drop 12 old

-- a face has a copy of a table
abbrev pub HasCopy : FontFile → (tag : ℕ) → (table : List ℕ) → Type 0
HasCopy face tag table = (bytes : List ℕ) × IsTableOf face tag bytes × IsCopy tag table bytes

-- The face has copies of these tables, and no other tables.
pub record HasAll (face : FontFile) (tables : List Table) : Type 0 where
  pub each : (i : ℕ) (table : Table) → IsGiven tables i table → HasCopy face table.tag table.bytes.now
  pub only : (i : ℕ) → i < tables_of face → (k : ℕ) × (table : Table) × IsGiven tables k table × (table.tag ≡ tag_of face i)
  pub counted : tables_of face ≡ length tables

-- A file with one face of version "OTTO", which has copies of these tables only. It is sound if it has a table.
pub record IsFileOf (tables : List Table) (bytes : List ℕ) : Type 0 where
  pub opens : Opens bytes (length tables)
  pub sound : 0 < length tables → IsSoundFile bytes
  pub has : (face : FontFile) → IsFaceOf bytes 0 face → HasAll face tables
  pub size : length bytes ≡ size_of tables

-- the list has a table with this tag and these bytes
abbrev pub IsListed : List Table → (tag : ℕ) → List ℕ → Type 0
IsListed tables tag bytes = (k : ℕ) × (t : Table) × IsGiven tables k t × (t.tag ≡ tag) × (t.bytes.now ≡ bytes)

-- how many tables have a tag
abbrev pub tagged : List Table → (tag : ℕ) → ℕ
tagged tables tag = sum_by (λ t. if t.tag == tag then 1 else 0) tables

-- two neighbours have this tag
pub record HasNeighbours (tables : List Table) (tag : ℕ) : Type 0 where
  pub i : ℕ
  pub a : Table
  pub b : Table
  pub first : IsGiven tables i a
  pub second : IsGiven tables (i + 1) b
  pub of_first : a.tag ≡ tag
  pub of_second : b.tag ≡ tag

abbrev pub NoNeighbours : List Table → Type 0
NoNeighbours tables = (i : ℕ) (a b : Table) → IsGiven tables i a → IsGiven tables (i + 1) b → a.tag ≡ b.tag → ⊥

-- In some order of the tables two neighbours have this tag.
abbrev pub HasTwice : List Table → (tag : ℕ) → Type 0
HasTwice tables tag = (sorted : List Table) × IsPermutation tables sorted × HasNeighbours sorted tag

-- A file of the tables would have 4,096 tables or more, or 2^32 bytes or more.
abbrev pub AreTooLarge : List Table → Type 0
AreTooLarge tables = (4096 ≤ length tables) ⊎ (2 ^ 32 ≤ size_of tables)

-- why no file of the tables is written
abbrev pub NoFileOf : Error → List Table → Type 0
NoFileOf Memory tables = Unit {0}
NoFileOf (SameTag tag) tables = HasTwice tables tag
NoFileOf TooLarge tables = AreTooLarge tables
NoFileOf _ tables = ⊥

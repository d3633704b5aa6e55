-- A file of tables (ISO/IEC 14496-22, 4.5, "Organization of an OpenType font").
use Rattle.std.specs.Prelude.{◌≡◌, ℕ, ◌+◌, ◌*◌, ◌^◌, ◌%◌, ◌<◌, ◌≤◌, true, List, length, All}
use Rattle.std.specs.List.{slice_range}
use Rattle.postscript_base.specs.Index.{number_at}
use Rattle.postscript_sfnt.specs.Directory.{IsFace, IsDirectory, tag_at, checksum_at, offset_at, length_at}
use Rattle.postscript_sfnt.specs.Lent.{IsFaceOf, IsTableOf, tables_of, tag_of}
use Rattle.postscript_sfnt.specs.declared.file.FontFile.{FontFile}
use Rattle.postscript_sfnt_write.specs.Checksum.{checksum}
use Rattle.postscript_sfnt_write.specs.Tables.{IsGiven, TagsRise, adjusts, in_file, room_of, size_of}
use Rattle.postscript_sfnt_write.specs.declared.error.Error.{Error}
use Rattle.postscript_sfnt_write.specs.declared.error.Error.TheVariants.{CharactersDoNotRise, Cut, Memory, TagsDoNotRise, TooManyTables, TooLarge}
use Rattle.postscript_sfnt_write.specs.declared.file.Table.{Table}

-- The file begins with its only face, and the directory of the face has `count` tables. The version is "OTTO", for outlines in a `CFF `
-- table.
pub record Opens (bytes : List ℕ) (count : ℕ) : Type 0 where
  pub version : number_at bytes 0 4 ≡ 0x4f54544f
  pub face : IsFace bytes 0 0
  pub directory : IsDirectory bytes 0 count

-- A record has the tag, the checksum and the length of a table. The checksum of `head` is computed with a checkSumAdjustment of 0.
pub record IsRecordOf (bytes : List ℕ) (i : ℕ) (table : Table) : Type 0 where
  pub tag : tag_at bytes 0 i ≡ table.tag
  pub sum : checksum_at bytes 0 i ≡ checksum (in_file 0 table)
  pub size : length_at bytes 0 i ≡ length table.bytes.now

-- the records belong to the tables, in order
abbrev pub AreListed : (bytes : List ℕ) → List Table → Type 0
AreListed bytes tables = (i : ℕ) (table : Table) → IsGiven tables i table → IsRecordOf bytes i table

-- The face has these tables and no others, in order. The table with a tag has the given bytes, apart from the checkSumAdjustment in `head`.
pub record HasTables (face : FontFile) (tables : List Table) : Type 0 where
  pub counted : tables_of face ≡ length tables
  pub tag : (i : ℕ) (table : Table) → IsGiven tables i table → tag_of face i ≡ table.tag
  pub adjustment : ℕ
  pub small : adjustment < 2 ^ 32
  pub bytes : (i : ℕ) (table : Table) → IsGiven tables i table → IsTableOf face table.tag (in_file adjustment table)

-- Any face 0 that is opened from the file has the tables.
abbrev pub AreLent : (bytes : List ℕ) → List Table → Type 0
AreLent bytes tables = (face : FontFile) → IsFaceOf bytes 0 face → HasTables face tables

-- the offset of the end of a table and its padding
abbrev pub end_of : (bytes : List ℕ) → (i : ℕ) → ℕ
end_of bytes i = offset_at bytes 0 i + room_of (length_at bytes 0 i)

-- Tables begin at multiples of four. The first one is right after the directory, each other one is after the one before it, and the file
-- ends after the last one. The padding is zeros.
pub record ArePacked (bytes : List ℕ) (count : ℕ) : Type 0 where
  pub aligned : (i : ℕ) → i < count → offset_at bytes 0 i % 4 ≡ 0
  pub first : 0 < count → offset_at bytes 0 0 ≡ 12 + count * 16
  pub next : (i : ℕ) → i + 1 < count → offset_at bytes 0 (i + 1) ≡ end_of bytes i
  pub last : (i : ℕ) → i + 1 ≡ count → length bytes ≡ end_of bytes i
  pub zeros : (i : ℕ) → i < count → All (λ byte. byte ≡ 0) (slice_range bytes (offset_at bytes 0 i + length_at bytes 0 i) (end_of bytes i))

-- The header has the search fields of the number of tables. The field entrySelector is its logarithm to base 2, rounded down. The field
-- searchRange is 16 times that power of two. The field rangeShift is what remains of 16 times the number.
pub record IsSearched (bytes : List ℕ) (count : ℕ) : Type 0 where
  pub most : 2 ^ number_at bytes 8 2 ≤ count
  pub least : count < 2 * 2 ^ number_at bytes 8 2
  pub range : number_at bytes 6 2 ≡ 2 ^ number_at bytes 8 2 * 16
  pub shift : number_at bytes 10 2 + number_at bytes 6 2 ≡ count * 16

-- If there is a `head` table of at least 12 bytes, the checksum of the whole file is constant.
abbrev pub IsAdjusted : (bytes : List ℕ) → List Table → Type 0
IsAdjusted bytes tables = (i : ℕ) (table : Table) → IsGiven tables i table → adjusts table ≡ true → checksum bytes ≡ 0xb1b0afba

-- The file has these tables and no others, in strictly ascending order of their tags (ISO/IEC 14496-22, 4.5). Each record has the tag, the
-- checksum and the length of its table. The tables are at multiples of four, in order, without gaps apart from zeros as padding. The header
-- has the search fields of their number. With a `head` table of 12 bytes or more, the checksum of the whole file is 0xB1B0AFBA.
pub record IsSoundFile (file : List ℕ) : Type 0 where
  pub tables : List Table
  pub rise : TagsRise tables
  pub opens : Opens file (length tables)
  pub lent : AreLent file tables
  pub listed : AreListed file tables
  pub packed : ArePacked file (length tables)
  pub searched : IsSearched file (length tables)
  pub adjusted : IsAdjusted file tables

-- the tables that a file can have
pub record CanStand (tables : List Table) : Type 0 where
  pub rise : TagsRise tables
  pub counted : length tables < 4096
  pub fits : size_of tables < 2 ^ 32

-- when each error is possible
abbrev pub Refuses : Error → List Table → Type 0
Refuses Memory tables = Unit {0}
Refuses Cut tables = ⊥
Refuses CharactersDoNotRise tables = ⊥
Refuses TagsDoNotRise tables = TagsRise tables → ⊥
Refuses TooManyTables tables = 4096 ≤ length tables
Refuses TooLarge tables = 2 ^ 32 ≤ size_of tables

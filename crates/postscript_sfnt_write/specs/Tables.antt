-- The tables of a file (ISO/IEC 14496-22, 4.5, "Organization of an OpenType font").
use Rattle.std.specs.Prelude.{◌≡◌, ℕ, Bool, ◌+◌, ◌*◌, ◌/◌, ◌^◌, ◌<◌, ◌==◌, ◌&&◌, nat_lt, if◌then◌else◌, List, [], ◌∷◌, ◌++◌, Some, length, take, drop, slice_get}
use Rattle.postscript_sfnt_write.specs.Numbers.{uint32}
use Rattle.postscript_sfnt_write.specs.declared.file.Table.{Table}

-- the table with an index, from 0 on
abbrev pub IsGiven : List Table → (i : ℕ) → Table → Type 0
IsGiven tables i table = slice_get tables i ≡ Some table

-- The tags are strictly ascending.
abbrev pub TagsRise : List Table → Type 0
TagsRise tables = (i j : ℕ) (a b : Table) → i < j → IsGiven tables i a → IsGiven tables j b → a.tag < b.tag

-- A `head` table of at least 12 bytes has a number for the whole file at offset 8, checkSumAdjustment.
abbrev pub adjusts : Table → Bool
adjusts table = (table.tag == 0x68656164) && nat_lt 11 (length table.bytes.now)

-- the bytes of a table in a file: in `head` they have this checkSumAdjustment
abbrev pub in_file : (adjustment : ℕ) → Table → List ℕ
in_file adjustment table =
    if adjusts table then take 8 table.bytes.now ++ (uint32 adjustment ++ drop 12 table.bytes.now) else table.bytes.now

-- the size of a table in a file, with padding to a multiple of four
abbrev pub room_of : (size : ℕ) → ℕ
room_of size = (size + 3) / 4 * 4

-- The size of all tables with their padding, and the size of a file. A file has a header, a record for each table, and the tables.
unfoldable pub rooms : List Table → ℕ
rooms [] = 0
rooms (table ∷ tables) = room_of (length table.bytes.now) + rooms tables

abbrev pub size_of : List Table → ℕ
size_of tables = 12 + length tables * 16 + rooms tables

-- tags are numbers of four bytes
abbrev pub AreTagged : List Table → Type 0
AreTagged tables = (i : ℕ) (table : Table) → IsGiven tables i table → table.tag < 2 ^ 32

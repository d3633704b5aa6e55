-- A `cmap` subtable of format 14 (OpenType 1.9, "cmap", "Format 14: Unicode Variation Sequences"). All offsets are from its first byte, and
-- an offset of 0 means that there is no such table.
use Rattle.std.specs.Prelude.{ℕ, ◌+◌, ◌-◌, ◌*◌, ◌/◌, ◌==◌, List, length, min, nat_lt, if◌then◌else◌}
use Rattle.postscript_base.specs.Index.{number_at}

-- the number of some bytes at an offset, or 0 if the table ends before they do
unfoldable pub number : (table : List ℕ) → (offset size : ℕ) → ℕ
number table offset size = if nat_lt (length table) (offset + size) then 0 else number_at table offset size

-- The number of entries of some bytes that an array has: as many as it says, but not those that are past the end of the table.
abbrev pub held : (table : List ℕ) → (offset size claimed : ℕ) → ℕ
held table offset size claimed = min claimed ((length table - offset) / size)

-- A table has a format, a length, a number of records, and the records. A record has a variation selector, and the offsets of a Default
-- UVS table and of a Non-Default UVS table.
abbrev pub format_of : (table : List ℕ) → ℕ
format_of table = number table 0 2

abbrev pub length_of : (table : List ℕ) → ℕ
length_of table = number table 2 4

unfoldable pub records_of : (table : List ℕ) → ℕ
records_of table = held table 10 11 (number table 6 4)

abbrev pub selector_at : (table : List ℕ) → (i : ℕ) → ℕ
selector_at table i = number table (10 + i * 11) 3

abbrev pub default_at : (table : List ℕ) → (i : ℕ) → ℕ
default_at table i = number table (10 + i * 11 + 3) 4

abbrev pub other_at : (table : List ℕ) → (i : ℕ) → ℕ
other_at table i = number table (10 + i * 11 + 7) 4

-- A Default UVS table has a number of ranges, and the ranges. A range has a first character and the number of further characters.
unfoldable pub ranges_of : (table : List ℕ) → (offset : ℕ) → ℕ
ranges_of table offset = if offset == 0 then 0 else held table (offset + 4) 4 (number table offset 4)

abbrev pub first_at : (table : List ℕ) → (offset k : ℕ) → ℕ
first_at table offset k = number table (offset + 4 + k * 4) 3

abbrev pub last_at : (table : List ℕ) → (offset k : ℕ) → ℕ
last_at table offset k = first_at table offset k + number table (offset + 4 + k * 4 + 3) 1

-- A Non-Default UVS table has a number of mappings, and the mappings. A mapping has a character and its glyph.
unfoldable pub mappings_of : (table : List ℕ) → (offset : ℕ) → ℕ
mappings_of table offset = if offset == 0 then 0 else held table (offset + 4) 5 (number table offset 4)

abbrev pub char_at : (table : List ℕ) → (offset k : ℕ) → ℕ
char_at table offset k = number table (offset + 4 + k * 5) 3

abbrev pub glyph_at : (table : List ℕ) → (offset k : ℕ) → ℕ
glyph_at table offset k = number table (offset + 4 + k * 5 + 3) 2

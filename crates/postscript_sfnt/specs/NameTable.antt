-- The `name` table (ISO/IEC 14496-22). It has the number of records at offset 2, the offset of the texts at 4, and the records from
-- 6 on.
use Rattle.std.specs.Prelude.{◌≡◌, ◌⊎◌, ℕ, ◌+◌, ◌*◌, ◌<◌, ◌≤◌, ◌==◌, ◌&&◌, ◌||◌, if◌then◌else◌, nat_lt, List, length}
use Rattle.std.specs.List.{slice_range}
use Rattle.postscript_base.specs.Index.{number_at}
use Rattle.postscript_sfnt.specs.Choice.{IsBest}
use Rattle.postscript_sfnt.specs.declared.names.Name.{Name}
use Rattle.postscript_sfnt.specs.declared.names.Name.TheVariants.{Utf16, MacRoman}
use Rattle.postscript_sfnt.specs.declared.names.Names.{Names}

abbrev pub names_of : List ℕ → ℕ
names_of table = number_at table 2 2

-- A record has a platform, an encoding, a language, a name identifier, a length, and an offset from the beginning of the texts.
abbrev pub field_at : List ℕ → (i field : ℕ) → ℕ
field_at table i field = number_at table (6 + i * 12 + field * 2) 2

abbrev pub platform_of : List ℕ → (i : ℕ) → ℕ
platform_of table i = field_at table i 0

abbrev pub encoding_of : List ℕ → (i : ℕ) → ℕ
encoding_of table i = field_at table i 1

abbrev pub language_of : List ℕ → (i : ℕ) → ℕ
language_of table i = field_at table i 2

abbrev pub identifier_of : List ℕ → (i : ℕ) → ℕ
identifier_of table i = field_at table i 3

-- the offsets of the beginning and the end of a text
abbrev pub text_start : List ℕ → (i : ℕ) → ℕ
text_start table i = number_at table 4 2 + field_at table i 5

abbrev pub text_end : List ℕ → (i : ℕ) → ℕ
text_end table i = text_start table i + field_at table i 4

-- From the highest rank to the lowest: Windows in US English, Unicode, Windows in other languages, and Macintosh Roman. All others have
-- rank 0.
abbrev pub name_rank : (platform encoding language : ℕ) → ℕ
name_rank platform encoding language =
    if (platform == 3) && (encoding == 0 || (encoding == 1 || encoding == 10)) then (if language == 0x409 then 4 else 2)
    else if platform == 0 then 3
    else if (platform == 1) && (encoding == 0) then 1
    else 0

-- A record has rank 0 if it has another name identifier, or if its text is truncated.
abbrev pub name_rank_at : List ℕ → (identifier i : ℕ) → ℕ
name_rank_at table identifier i =
    if (identifier_of table i == identifier) && nat_lt (text_end table i) (length table + 1)
    then name_rank (platform_of table i) (encoding_of table i) (language_of table i) else 0

-- the texts of the Macintosh platform are in Mac OS Roman, and all others in UTF-16
abbrev pub IsTextAt : List ℕ → (i : ℕ) → Name → Type 0
IsTextAt table i (Utf16 text) = (platform_of table i ≡ 1 → ⊥) × (text.now ≡ slice_range table (text_start table i) (text_end table i))
IsTextAt table i (MacRoman text) = (platform_of table i ≡ 1) × (text.now ≡ slice_range table (text_start table i) (text_end table i))

-- the text of a name identifier is in the first record of the highest rank, which is above 0
abbrev pub IsName : List ℕ → (identifier : ℕ) → Name → Type 0
IsName table identifier name = (i : ℕ) × IsBest (name_rank_at table identifier) (names_of table) i × IsTextAt table i name

abbrev pub HasNoName : List ℕ → (identifier : ℕ) → Type 0
HasNoName table identifier = (i : ℕ) → i < names_of table → name_rank_at table identifier i ≡ 0

-- the name with the better identifier, or the name with the other identifier if there is none
abbrev pub IsEither : List ℕ → (better other : ℕ) → Name → Type 0
IsEither table better other name = IsName table better name ⊎ (HasNoName table better × IsName table other name)

-- the records are inside the table
abbrev pub HasRecords : List ℕ → Type 0
HasRecords table = 6 + names_of table * 12 ≤ length table

abbrev pub table_of : Names → List ℕ
table_of names = names.table.now

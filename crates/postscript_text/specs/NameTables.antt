-- The `name` table (ISO/IEC 14496-22). It has its format, the number of records, the offset of the texts, the records, and the texts.
use Rattle.std.specs.Prelude.{◌≡◌, ◌⊎◌, ℕ, ◌+◌, ◌*◌, ◌<◌, ◌≤◌, Bool, true, List, [], ◌∷◌, ◌++◌, length, min, nat_eq, nat_lt, if◌then◌else◌, flat_map}
use Rattle.std.specs.Int.{to_be_bytes, w16}
use Rattle.std.specs.List.{Contains, list_any, slice_range}
use Rattle.postscript_base.specs.Index.{number_at}
use Rattle.postscript_text.specs.Repetitions.{Differs, Repeats}
use Rattle.postscript_text.specs.declared.names.NameTable.{NameTable}
use Rattle.postscript_text.specs.declared.names.Record.{Record}

-- a number of two bytes, or 0 if the table ends before it
abbrev pub word_at : (table : List ℕ) → (place : ℕ) → ℕ
word_at table place = if nat_lt (length table) (place + 2) then 0 else number_at table place 2

-- A record has a platform, an encoding, a language, a name identifier, a length, and an offset from the beginning of the texts.
abbrev pub field_of : (table : List ℕ) → (i field : ℕ) → ℕ
field_of table i field = word_at table (6 + i * 12 + field * 2)

-- the offset of the text of a record
abbrev pub start_of : (table : List ℕ) → (i : ℕ) → ℕ
start_of table i = word_at table 4 + field_of table i 5

-- record `i` of a table, with its text
pub record IsRecordAt (table : List ℕ) (i : ℕ) (entry : Record) : Type 0 where
  pub platform : entry.platform ≡ field_of table i 0
  pub encoding : entry.encoding ≡ field_of table i 1
  pub language : entry.language ≡ field_of table i 2
  pub identifier : entry.identifier ≡ field_of table i 3
  pub start : entry.start ≡ start_of table i
  pub within : start_of table i + field_of table i 4 ≤ length table
  pub text : entry.text.now ≡ slice_range table (start_of table i) (start_of table i + field_of table i 4)

-- a number in two bytes; greater numbers become 65535
abbrev pub word : ℕ → List ℕ
word number = to_be_bytes w16 (min number 65535)

-- the bytes of a record whose text is at an offset from the beginning of the texts
abbrev pub row : Record → (offset : ℕ) → List ℕ
row entry offset =
    flat_map word (entry.platform ∷ entry.encoding ∷ entry.language ∷ entry.identifier ∷ length entry.text.now ∷ offset ∷ [])

-- The texts of two records have the same offset in the original, and the same length.
abbrev pub IsLike : Record → Record → Type 0
IsLike one other = (one.start ≡ other.start) × (length one.text.now ≡ length other.text.now)

-- a text is part of the texts, at an offset
abbrev pub IsIn : (texts : List ℕ) → (offset : ℕ) → (text : List ℕ) → Type 0
IsIn texts offset text = (before : List ℕ) × (after : List ℕ) × (texts ≡ before ++ (text ++ after)) × (offset ≡ length before)

-- The bytes of records in order, and their texts. A text is at the end of those before it. But a record like one before it refers to the
-- text of that one.
pub data AreStored : List Record → (rows texts : List ℕ) → Type 0 where
  nothing : AreStored [] [] []
  own : (records : List Record) (rows texts : List ℕ) (entry : Record) → AreStored records rows texts →
      ((other : Record) → Contains records other → IsLike other entry → ⊥) →
      AreStored (records ++ entry ∷ []) (rows ++ row entry (length texts)) (texts ++ entry.text.now)
  shared : (records : List Record) (rows texts : List ℕ) (entry other : Record) (offset : ℕ) → AreStored records rows texts →
      Contains records other → IsLike other entry → IsIn texts offset other.text.now →
      AreStored (records ++ entry ∷ []) (rows ++ row entry offset) texts

-- A new table has these records so far. It knows the offset of each text.
pub record Holds (table : NameTable) (records : List Record) : Type 0 where
  pub stored : AreStored records table.records.items table.texts.items
  pub listed : (entry : Record) → Contains records entry →
      (place : ℕ) × Contains table.places.items (entry.start, length entry.text.now, place)
  pub known : (start size place : ℕ) → Contains table.places.items (start, size, place) →
      (other : Record) × Contains records other × (other.start ≡ start) × (length other.text.now ≡ size)
      × IsIn table.texts.items place other.text.now

-- the offset of the texts in a table with a number of records
abbrev pub texts_at : (count : ℕ) → ℕ
texts_at count = 6 + count * 12

-- The bytes of a `name` table of format 0 with these records. Each offset fits in two bytes.
pub record IsNameTable (records : List Record) (bytes : List ℕ) : Type 0 where
  pub rows : List ℕ
  pub texts : List ℕ
  pub stored : AreStored records rows texts
  pub few : texts_at (length records) ≤ 65535
  pub short : length texts ≤ 65535
  pub is : bytes ≡ flat_map word (0 ∷ length records ∷ texts_at (length records) ∷ []) ++ (rows ++ texts)

-- A `name` table has no space for these records: the offset of the texts, or the size of the texts, exceeds two bytes.
pub record HaveNoSpace (records : List Record) : Type 0 where
  pub rows : List ℕ
  pub texts : List ℕ
  pub stored : AreStored records rows texts
  pub large : (65535 < texts_at (length records)) ⊎ (65535 < length texts)

-- the identifiers of names that systems and browsers read, and of names about the licence
abbrev pub are_read : List ℕ
are_read = 1 ∷ 2 ∷ 3 ∷ 4 ∷ 5 ∷ 6 ∷ 16 ∷ 17 ∷ 21 ∷ 22 ∷ 25 ∷ []

abbrev pub of_licence : List ℕ
of_licence = 0 ∷ 7 ∷ 13 ∷ 14 ∷ []

-- a list has a number
abbrev pub Has : List ℕ → ℕ → Type 0
Has numbers number = list_any (λ one. nat_eq one number) numbers ≡ true

-- a name that is read, or with `licence` one about the licence, in a language with a number
abbrev pub IsChosen : (licence : Bool) → Record → Type 0
IsChosen licence entry =
    (entry.language < 0x8000) × (Has are_read entry.identifier ⊎ ((licence ≡ true) × Has of_licence entry.identifier))

-- A record is left out if the table ends before its text does, if it is not chosen, or if it repeats a better record.
pub data IsLeftOut (table : List ℕ) (licence : Bool) (i : ℕ) : Type 0 where
  truncated : length table < start_of table i + field_of table i 4 → IsLeftOut table licence i
  not_chosen : (entry : Record) → IsRecordAt table i entry → (IsChosen licence entry → ⊥) → IsLeftOut table licence i
  repeated : (entry : Record) → IsRecordAt table i entry → Repeats table entry → IsLeftOut table licence i

-- Records among the first `count` of a table, in order. Each one is chosen, has its whole text, and does not repeat a better record. All
-- others are left out.
pub data AreChosen (table : List ℕ) (licence : Bool) : (count : ℕ) → List Record → Type 0 where
  no_record : AreChosen table licence 0 []
  chosen : (count : ℕ) (records : List Record) (entry : Record) → AreChosen table licence count records → IsRecordAt table count entry →
      IsChosen licence entry → Differs table entry → AreChosen table licence (count + 1) (records ++ entry ∷ [])
  left_out : (count : ℕ) (records : List Record) → AreChosen table licence count records → IsLeftOut table licence count →
      AreChosen table licence (count + 1) records

-- The records of a subtable and their tables. Only private contracts and proofs use these names.
use Rattle.std.specs.Prelude.{◌≡◌, ℕ, ◌+◌, ◌<◌, List, [], ◌∷◌, ◌++◌, length, flat_map}
use Rattle.postscript_sequences.specs.Text.{defaults_text, head_text, mapped_text, row_text}
use Rattle.postscript_sequences.specs.Sizes.{size_of}
use Rattle.postscript_sequences.specs.declared.error.Error.{Error}
use Rattle.postscript_sequences.specs.declared.error.Error.TheVariants.{Memory, TooLarge, TooLong}
use Rattle.postscript_sequences.specs.declared.parts.Part.{Part}
use Rattle.postscript_sequences.specs.declared.writing.Row.{Row}

-- a text is at an offset
pub record Holds (text bytes : List ℕ) (offset : ℕ) : Type 0 where
  pub front : List ℕ
  pub behind : List ℕ
  pub is : bytes ≡ front ++ (text ++ behind)
  pub place : length front ≡ offset

-- A table is added after the tables so far, which begin at `base`. Without entries there is no table, and its offset is 0.
pub data IsPlaced {X : Type 0} (base : ℕ) (items : List X) (text old new : List ℕ) (offset : ℕ) : Type 0 where
  absent : items ≡ [] → new ≡ old → offset ≡ 0 → IsPlaced base items text old new offset
  added : length items < 4294967296 → offset < 4294967296 → offset ≡ base + length old → new ≡ old ++ text → IsPlaced base items text old new offset

-- the two tables of a part are added, and the record has their offsets
pub record IsPut (base : ℕ) (one : Part) (old new : List ℕ) (row : Row) : Type 0 where
  pub selector : row.selector ≡ one.selector
  pub middle : List ℕ
  pub defaults : IsPlaced base one.defaults.items (defaults_text one.defaults.items) old middle row.defaults
  pub mapped : IsPlaced base one.mapped.items (mapped_text one.mapped.items) middle new row.mapped

-- A table is at an offset. Without entries there is no table, and its offset is 0.
pub data IsAt {X : Type 0} (items : List X) (text bytes : List ℕ) (offset : ℕ) : Type 0 where
  absent_at : items ≡ [] → offset ≡ 0 → IsAt items text bytes offset
  there_at : length items < 4294967296 → 0 < offset → offset < 4294967296 → Holds text bytes offset → IsAt items text bytes offset

-- the record of a part
pub record IsRowOf (bytes : List ℕ) (one : Part) (row : Row) : Type 0 where
  pub selector : row.selector ≡ one.selector
  pub defaults : IsAt one.defaults.items (defaults_text one.defaults.items) bytes row.defaults
  pub mapped : IsAt one.mapped.items (mapped_text one.mapped.items) bytes row.mapped

-- the records of parts
pub data AreRows (bytes : List ℕ) : List Part → List Row → Type 0 where
  no_row : AreRows bytes [] []
  row : (parts : List Part) (rows : List Row) (one : Part) (own : Row) → AreRows bytes parts rows → IsRowOf bytes one own →
      AreRows bytes (parts ++ one ∷ []) (rows ++ own ∷ [])

-- the same in any bytes in which the tables begin at `base`
abbrev pub AreRowsOf : (base : ℕ) → List Part → List Row → (tables : List ℕ) → Type 0
AreRowsOf base parts rows tables = (front : List ℕ) → length front ≡ base → AreRows (front ++ tables) parts rows

-- the bytes of a subtable with these parts
pub record IsWritten (parts : List Part) (bytes : List ℕ) : Type 0 where
  pub rows : List Row
  pub tables : List ℕ
  pub are : AreRows bytes parts rows
  pub few : length rows < 4294967296
  pub short : length bytes < 4294967296
  pub size : length bytes ≡ size_of parts
  pub is : bytes ≡ head_text (length bytes) (length rows) ++ (flat_map row_text rows ++ tables)

-- out of memory, or an offset exceeds four bytes
abbrev pub WriteFails : Error → Type 0
WriteFails Memory = Unit {0}
WriteFails TooLong = ⊥
WriteFails TooLarge = Unit {0}

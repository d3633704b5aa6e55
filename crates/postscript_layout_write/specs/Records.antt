-- Records of a tag and an offset as they are written, and the tables that they name. Only contracts of private functions and proofs name this.
use Rattle.std.specs.Prelude.{◌≡◌, ◌⊎◌, ℕ, ◌+◌, ◌*◌, ◌/◌, ◌%◌, ◌<◌, List, [], ◌∷◌, ◌++◌, length, slice_index}
use Rattle.postscript_layout.specs.Numbers.{word}
use Rattle.postscript_layout_write.specs.Features.{KeepsLanguage}
use Rattle.postscript_layout_write.specs.Holds.{Holds}
use Rattle.postscript_layout_write.specs.Sets.{Places}
use Rattle.postscript_layout_write.specs.Text.{array_text}

-- a table with a property is at a place of the bytes, wherever the bytes are
pub record Stands (Is : List ℕ → ℕ → Type 0) (bytes : List ℕ) (place : ℕ) : Type 0 where
  pub within : (table : List ℕ) (at : ℕ) → Holds bytes table at → Is table (at + place)

-- a table with a property is appended
pub record Puts (Is : List ℕ → ℕ → Type 0) (old new : List ℕ) : Type 0 where
  pub more : List ℕ
  pub bytes : new ≡ old ++ more
  pub stands : Stands Is new (length old)

-- record j has a tag, and names a table with a property
pub record HasRecord (tag : ℕ) (Is : List ℕ → ℕ → Type 0) (base j : ℕ) (numbers bytes : List ℕ) : Type 0 where
  pub tag_small : tag < 4294967296
  pub high : slice_index numbers (j * 3) ≡ tag / 65536
  pub low : slice_index numbers (j * 3 + 1) ≡ tag % 65536
  pub place : ℕ
  pub offset : slice_index numbers (j * 3 + 2) ≡ base + place
  pub small : base + place < 65536
  pub stands : Stands Is bytes place

-- the first records of a list; the tables begin at an offset
pub record AreRecords (tag : ℕ → ℕ) (Is : ℕ → List ℕ → ℕ → Type 0) (base count : ℕ) (numbers bytes : List ℕ) : Type 0 where
  pub many : length numbers ≡ count * 3
  pub each : (j : ℕ) → j < count → HasRecord (tag j) (Is j) base j numbers bytes

-- a record with a tag and a table is added
pub record AddsRecord (tag base : ℕ) (table numbers bytes newnumbers newbytes : List ℕ) : Type 0 where
  pub place : ℕ
  pub record_is : newnumbers ≡ numbers ++ (tag / 65536 ∷ tag % 65536 ∷ (base + place) ∷ [])
  pub small : base + place < 65536
  pub placed : Places table bytes newbytes place

-- a list: its first numbers, its records, and the tables
unfoldable pub records_text : (head numbers bytes : List ℕ) → List ℕ
records_text head numbers bytes = array_text head ++ (array_text numbers ++ bytes)

-- the default language system of a script is appended, if there is one
abbrev pub PutsDefault : (kept table : List ℕ) → (script : ℕ) → (old new : List ℕ) → Type 0
PutsDefault kept table script old new = (word table script ≡ 0) ⊎ Puts (KeepsLanguage kept table (script + word table script)) old new

-- the header, the script list, the feature list, and the lookup list
unfoldable pub table_text : (scripts features lookups : List ℕ) → List ℕ
table_text scripts features lookups =
    array_text (1 ∷ 0 ∷ 10 ∷ (10 + length scripts) ∷ (10 + length scripts + length features) ∷ []) ++ (scripts ++ (features ++ lookups))

-- The layout of an INDEX: slices of one list of bytes (Technical Note 5176, "INDEX Data").
use Rattle.std.specs.Prelude.{◌≡◌, ◌⊎◌, ℕ, ◌+◌, ◌-◌, ◌*◌, ◌<◌, ◌≤◌, List, [], ◌∷◌, length, take, drop, map}
use Rattle.postscript_base.specs.Numbers.{big_endian}
use Rattle.postscript_compact1.specs.Index.{Index, empty, lengths, index}

-- each number is greater than the one before it
abbrev pub RisesFrom : ℕ → List ℕ → Type 0
RisesFrom last [] = Unit {0}
RisesFrom last (next ∷ offsets) = (last < next) × RisesFrom next offsets

-- the offsets begin with 1 and increase
abbrev pub AreOffsets : List ℕ → Type 0
AreOffsets [] = ⊥
AreOffsets (first ∷ offsets) = (first ≡ 1) × RisesFrom first offsets

-- An INDEX that is not empty has the number of items that its count says, and one offset more. The offsets begin with 1 and increase. The
-- length of item i is the difference between offsets i + 1 and i.
pub record IsFilled (index : Index) : Type 0 where
  pub some : 0 < index.count
  pub items : length index.items ≡ index.count
  pub offsets : length index.offsets ≡ index.count + 1
  pub rise : AreOffsets index.offsets
  pub lengths : map length index.items ≡ lengths index.offsets

-- An INDEX is empty, or its count, offsets and items agree. This is true of every INDEX that was read.
abbrev pub IsWhole : Index → Type 0
IsWhole index = (index ≡ empty) ⊎ IsFilled index

-- the `size` bytes at an offset exist, and are this number
abbrev pub NumberAt : List ℕ → ℕ → ℕ → ℕ → Type 0
NumberAt bytes place size n = (place + size ≤ length bytes) × (n ≡ big_endian (take size (drop place bytes)))

-- offsets of this size, one after the other
abbrev pub OffsetsAt : List ℕ → ℕ → ℕ → List ℕ → Type 0
OffsetsAt bytes place size [] = Unit {0}
OffsetsAt bytes place size (offset ∷ offsets) = NumberAt bytes place size offset × OffsetsAt bytes (place + size) size offsets

-- Each item is the slice from its offset to the next one. Offsets are relative to the byte before the data.
abbrev pub ItemsFrom : List ℕ → ℕ → ℕ → List ℕ → List (List ℕ) → Type 0
ItemsFrom bytes before low [] [] = Unit {0}
ItemsFrom bytes before low (high ∷ offsets) (item ∷ items) =
    (before + high ≤ length bytes) × (item ≡ take (high - low) (drop (before + low) bytes)) × ItemsFrom bytes before high offsets items
ItemsFrom bytes before low [] (item ∷ items) = ⊥
ItemsFrom bytes before low (high ∷ offsets) [] = ⊥

abbrev pub ItemsAt : List ℕ → ℕ → List ℕ → List (List ℕ) → Type 0
ItemsAt bytes before [] items = ⊥
ItemsAt bytes before (low ∷ offsets) items = ItemsFrom bytes before low offsets items

-- the last number of a list with this first number
abbrev pub last_of : ℕ → List ℕ → ℕ
last_of n [] = n
last_of n (next ∷ ns) = last_of next ns

-- the offset of the byte before the data, which is the last byte of the offsets
abbrev pub before_data : ℕ → Index → ℕ
before_data place index = place + 2 + (index.count + 1) * index.offset_size

-- At the offset `place` there is an INDEX with items, and `next` is the offset after the last one.
pub record IsFilledAt (bytes : List ℕ) (place : ℕ) (index : Index) (next : ℕ) : Type 0 where
  pub some : 0 < index.count
  pub count : NumberAt bytes place 2 index.count
  pub size : NumberAt bytes (place + 2) 1 index.offset_size
  pub least : 1 ≤ index.offset_size
  pub most : index.offset_size ≤ 4
  pub many : length index.offsets ≡ index.count + 1
  pub offsets : OffsetsAt bytes (place + 3) index.offset_size index.offsets
  pub rise : AreOffsets index.offsets
  pub items : ItemsAt bytes (before_data place index) index.offsets index.items
  pub behind : next ≡ before_data place index + last_of 0 index.offsets

-- at the offset `place` there is a count of 0, and `next` is the offset after it
abbrev pub IsEmptyAt : List ℕ → ℕ → Index → ℕ → Type 0
IsEmptyAt bytes place index next = NumberAt bytes place 2 0 × (index ≡ empty) × (next ≡ place + 2)

abbrev pub IsIndex : List ℕ → ℕ → Index → ℕ → Type 0
IsIndex bytes place index next = IsEmptyAt bytes place index next ⊎ IsFilledAt bytes place index next

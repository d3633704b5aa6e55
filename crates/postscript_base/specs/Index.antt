-- An INDEX that stays in its bytes: its offsets do not decrease (Technical Note 5176, "INDEX Data").
pub mod Lent
pub mod Wide
use Rattle.std.specs.Prelude.{◌≡◌, ◌↔◌, ◌⊎◌, ℕ, ◌+◌, ◌-◌, ◌*◌, ◌<◌, ◌≤◌, ◌==◌, ◌||◌, nat_lt, if◌then◌else◌, List, [], length, take, drop, map}
use Rattle.std.specs.List.{slice_range, range_with_len}
use Rattle.postscript_base.specs.Numbers.{big_endian}
use Rattle.postscript_base.specs.Refusal.{Refusal, malformed_offset, unexpected_eof}
use Rattle.postscript_base.specs.Tape.Outcome.{Reading, Got, Fault, end}

-- the number in the `size` bytes at an offset, or in fewer at the end
unfoldable pub number_at : List ℕ → (place size : ℕ) → ℕ
number_at bytes place size = big_endian (take size (drop place bytes))

-- an INDEX begins with a count of two bytes and an offset size of one byte
abbrev pub count_at : List ℕ → (place : ℕ) → ℕ
count_at bytes place = number_at bytes place 2

abbrev pub size_at : List ℕ → (place : ℕ) → ℕ
size_at bytes place = number_at bytes (place + 2) 1

-- offset i of an array at `start`, whose offsets have `size` bytes each
abbrev pub offset_at : List ℕ → (start size i : ℕ) → ℕ
offset_at bytes start size i = number_at bytes (start + i * size) size

-- The offset in the bytes to which offset i of an INDEX points. The array at `start` has one offset more than `count`. Offsets are relative
-- to the byte before the data.
abbrev pub place_of : List ℕ → (start size count i : ℕ) → ℕ
place_of bytes start size count i = start + (count + 1) * size + offset_at bytes start size i - 1

-- item i is the slice from its offset to the next one
abbrev pub item_at : List ℕ → (start size count i : ℕ) → List ℕ
item_at bytes start size count i = slice_range bytes (place_of bytes start size count i) (place_of bytes start size count (i + 1))

unfoldable pub items_at : List ℕ → (start size count : ℕ) → List (List ℕ)
items_at bytes start size count = map (item_at bytes start size count) (range_with_len 0 count)

-- the offsets begin with 1 and do not decrease
pub record AreInOrder (bytes : List ℕ) (start size count : ℕ) : Type 0 where
  pub first : offset_at bytes start size 0 ≡ 1
  pub rise : (i : ℕ) → i < count → offset_at bytes start size i ≤ offset_at bytes start size (i + 1)

-- At the offset `place` there is an INDEX that is not empty: a count, an offset size and the offsets. `next` is the offset to which the
-- last of them points, and is not past the end.
pub record IsLaidOut (bytes : List ℕ) (place next : ℕ) : Type 0 where
  pub some : 0 < count_at bytes place
  pub least : 1 ≤ size_at bytes place
  pub most : size_at bytes place ≤ 4
  pub offsets : place + 3 + (count_at bytes place + 1) * size_at bytes place ≤ length bytes
  pub behind : next ≡ place_of bytes (place + 3) (size_at bytes place) (count_at bytes place) (count_at bytes place)
  pub within : next ≤ length bytes

-- the items of the INDEX at an offset
abbrev pub items_from : List ℕ → (place : ℕ) → List (List ℕ)
items_from bytes place = items_at bytes (place + 3) (size_at bytes place) (count_at bytes place)

pub record IsFilled (bytes : List ℕ) (place : ℕ) (items : List (List ℕ)) (next : ℕ) : Type 0 where
  pub laid : IsLaidOut bytes place next
  pub order : AreInOrder bytes (place + 3) (size_at bytes place) (count_at bytes place)
  pub slices : items ≡ items_from bytes place

-- at the offset `place` there is a count of 0, and `next` is the offset after it
pub record IsEmpty (bytes : List ℕ) (place : ℕ) (items : List (List ℕ)) (next : ℕ) : Type 0 where
  pub within : place + 2 ≤ length bytes
  pub none : count_at bytes place ≡ 0
  pub no_items : items ≡ []
  pub behind : next ≡ place + 2

-- at the offset `place` there is an INDEX of these items, and `next` is the offset after it
abbrev pub IsIndex : List ℕ → (place : ℕ) → List (List ℕ) → (next : ℕ) → Type 0
IsIndex bytes place items next = IsEmpty bytes place items next ⊎ IsFilled bytes place items next

-- The same, but the offsets need not be in order.
pub record IsSpread (bytes : List ℕ) (place : ℕ) (items : List (List ℕ)) (next : ℕ) : Type 0 where
  pub laid : IsLaidOut bytes place next
  pub slices : items ≡ items_from bytes place

abbrev pub IsOpened : List ℕ → (place : ℕ) → List (List ℕ) → (next : ℕ) → Type 0
IsOpened bytes place items next = IsEmpty bytes place items next ⊎ IsSpread bytes place items next

-- after a count of `width` bytes, which is not 0, there is an offset size that is 0 or greater than 4
pub record HasBadSize (bytes : List ℕ) (place width : ℕ) : Type 0 where
  pub within : place + width + 1 ≤ length bytes
  pub some : 0 < number_at bytes place width
  pub size : (number_at bytes (place + width) 1 ≡ 0) ⊎ (4 < number_at bytes (place + width) 1)

-- an INDEX is at the offset, but its offsets do not begin with 1, or they decrease
abbrev pub IsOutOfOrder : List ℕ → (place : ℕ) → Type 0
IsOutOfOrder bytes place = ((next : ℕ) × IsLaidOut bytes place next)
    × (AreInOrder bytes (place + 3) (size_at bytes place) (count_at bytes place) → ⊥)

-- Why no INDEX is opened at an offset: the bytes end within its count, its offset size, its offsets or its data, or the offset size is not
-- from 1 to 4.
pub data IsNotOpened (bytes : List ℕ) (place : ℕ) : Refusal → Type 0 where
  CutCount : length bytes < place + 2 → IsNotOpened bytes place unexpected_eof
  CutSize : place + 2 ≤ length bytes → 0 < count_at bytes place → length bytes < place + 3 → IsNotOpened bytes place unexpected_eof
  BadSize : HasBadSize bytes place 2 → IsNotOpened bytes place malformed_offset
  CutOffsets : place + 3 ≤ length bytes → 0 < count_at bytes place → 1 ≤ size_at bytes place → size_at bytes place ≤ 4 →
      length bytes < place + 3 + (count_at bytes place + 1) * size_at bytes place → IsNotOpened bytes place unexpected_eof
  CutData : 0 < count_at bytes place → 1 ≤ size_at bytes place → size_at bytes place ≤ 4 →
      place + 3 + (count_at bytes place + 1) * size_at bytes place ≤ length bytes →
      length bytes < place_of bytes (place + 3) (size_at bytes place) (count_at bytes place) (count_at bytes place) →
      IsNotOpened bytes place unexpected_eof

-- `opened` returns the items of an INDEX and the offset after it, or an error. `spread` is the case of a count that is not 0. Only the last
-- of the offsets is checked.
unfoldable pub spread : Reading (List (List ℕ))
spread bytes place =
    let next = place_of bytes (place + 3) (size_at bytes place) (count_at bytes place) (count_at bytes place) in
    if nat_lt (length bytes) (place + 3) then end
    else if (size_at bytes place == 0) || nat_lt 4 (size_at bytes place) then Fault malformed_offset
    else if nat_lt (length bytes) (place + 3 + (count_at bytes place + 1) * size_at bytes place) then end
    else if nat_lt (length bytes) next then end
    else Got (items_from bytes place) next

unfoldable pub opened : Reading (List (List ℕ))
opened bytes place =
    if nat_lt (length bytes) (place + 2) then end
    else if count_at bytes place == 0 then Got [] (place + 2)
    else spread bytes place

-- A law: opening returns items exactly if an INDEX of these items is there, whose offsets need not be in order.
abbrev pub OpensIndices : Type 0
OpensIndices = (bytes : List ℕ) (place : ℕ) (items : List (List ℕ)) (next : ℕ) → (opened bytes place ≡ Got items next)
    ↔ IsOpened bytes place items next

-- A law of the definitions. Opening fails exactly if there is such a reason.
abbrev pub OpensNoOthers : Type 0
OpensNoOthers = (bytes : List ℕ) (place : ℕ) (refusal : Refusal) → (opened bytes place ≡ Fault refusal)
    ↔ IsNotOpened bytes place refusal

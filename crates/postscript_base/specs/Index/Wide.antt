-- An INDEX whose count has four bytes (OpenType 1.9, "CFF2 - Compact Font Format (CFF) Version 2", "INDEX Data"). Apart from the count it
-- is like an INDEX of Technical Note 5176.
use Rattle.std.specs.Prelude.{◌≡◌, ◌⊎◌, ℕ, ◌+◌, ◌*◌, ◌<◌, ◌≤◌, List, [], length}
use Rattle.postscript_base.specs.Index.{number_at, place_of, items_at, AreInOrder}

-- it begins with a count of four bytes and an offset size of one byte
abbrev pub wide_count_at : List ℕ → (place : ℕ) → ℕ
wide_count_at bytes place = number_at bytes place 4

abbrev pub wide_size_at : List ℕ → (place : ℕ) → ℕ
wide_size_at bytes place = number_at bytes (place + 4) 1

-- At the offset `place` there is an INDEX that is not empty: a count, an offset size and the offsets. `next` is the offset to which the
-- last of them points, and is not past the end.
pub record IsWideLaidOut (bytes : List ℕ) (place next : ℕ) : Type 0 where
  pub some : 0 < wide_count_at bytes place
  pub least : 1 ≤ wide_size_at bytes place
  pub most : wide_size_at bytes place ≤ 4
  pub offsets : place + 5 + (wide_count_at bytes place + 1) * wide_size_at bytes place ≤ length bytes
  pub behind : next ≡ place_of bytes (place + 5) (wide_size_at bytes place) (wide_count_at bytes place) (wide_count_at bytes place)
  pub within : next ≤ length bytes

-- the items of the INDEX at an offset
abbrev pub wide_items_from : List ℕ → (place : ℕ) → List (List ℕ)
wide_items_from bytes place = items_at bytes (place + 5) (wide_size_at bytes place) (wide_count_at bytes place)

-- at the offset `place` there is a count of 0, and `next` is the offset after it
pub record IsWideEmpty (bytes : List ℕ) (place : ℕ) (items : List (List ℕ)) (next : ℕ) : Type 0 where
  pub within : place + 4 ≤ length bytes
  pub none : wide_count_at bytes place ≡ 0
  pub no_items : items ≡ []
  pub behind : next ≡ place + 4

pub record IsWideFilled (bytes : List ℕ) (place : ℕ) (items : List (List ℕ)) (next : ℕ) : Type 0 where
  pub laid : IsWideLaidOut bytes place next
  pub order : AreInOrder bytes (place + 5) (wide_size_at bytes place) (wide_count_at bytes place)
  pub slices : items ≡ wide_items_from bytes place

-- at the offset `place` there is an INDEX of these items, and `next` is the offset after it
abbrev pub IsWideIndex : List ℕ → (place : ℕ) → List (List ℕ) → (next : ℕ) → Type 0
IsWideIndex bytes place items next = IsWideEmpty bytes place items next ⊎ IsWideFilled bytes place items next

-- The same, but the offsets need not be in order.
pub record IsWideSpread (bytes : List ℕ) (place : ℕ) (items : List (List ℕ)) (next : ℕ) : Type 0 where
  pub laid : IsWideLaidOut bytes place next
  pub slices : items ≡ wide_items_from bytes place

abbrev pub IsWideOpened : List ℕ → (place : ℕ) → List (List ℕ) → (next : ℕ) → Type 0
IsWideOpened bytes place items next = IsWideEmpty bytes place items next ⊎ IsWideSpread bytes place items next

-- an INDEX is at the offset, but its offsets do not begin with 1, or they decrease
abbrev pub IsWideOutOfOrder : List ℕ → (place : ℕ) → Type 0
IsWideOutOfOrder bytes place =
    ((next : ℕ) × IsWideLaidOut bytes place next)
    × (AreInOrder bytes (place + 5) (wide_size_at bytes place) (wide_count_at bytes place) → ⊥)

-- For every character of Unicode: the first of a list of segments that contains it.
use Rattle.std.specs.Prelude.{◌≡◌, ◌⊎◌, ℕ, ◌<◌, ◌≤◌, List, length, slice_index}
use Rattle.postscript_sfnt.specs.CharacterMap.{Holds, IsFirst}

-- one of the first `count` segments contains the character
abbrev pub IsHeld : (first last : ℕ → ℕ) (count char : ℕ) → Type 0
IsHeld first last count char = (i : ℕ) × Holds first last count i char

-- The owner is the first of the segments that contains the character, or 4294967295 if none does.
abbrev pub IsOwner : (first last : ℕ → ℕ) (count char owner : ℕ) → Type 0
IsOwner first last count char owner = IsFirst first last count char owner ⊎ ((owner ≡ 4294967295) × (IsHeld first last count char → ⊥))

-- the list has the owner of each character of Unicode
pub record AreOwners (first last : ℕ → ℕ) (count : ℕ) (owners : List ℕ) : Type 0 where
  pub all : length owners ≡ 0x110000
  pub each : (char : ℕ) → char < 0x110000 → IsOwner first last count char (slice_index owners char)

-- One of the first `count` segments contains the character, or the segment after them contains it and it is less than `to`.
abbrev pub IsHeldTo : (first last : ℕ → ℕ) (count to char : ℕ) → Type 0
IsHeldTo first last count to char = IsHeld first last count char ⊎ ((first count ≤ char) × (char ≤ last count) × (char < to))

-- Each number up to 0x110000 has a link. IsHeldTo holds for every number from a character on and before its link. It does not hold for a
-- character of Unicode that links to itself.
pub record AreLinks (first last : ℕ → ℕ) (count to : ℕ) (links : List ℕ) : Type 0 where
  pub over : (char k : ℕ) → char ≤ 0x110000 → char ≤ k → k < slice_index links char → IsHeldTo first last count to k
  pub free : (char : ℕ) → char < 0x110000 → slice_index links char ≡ char → IsHeldTo first last count to char → ⊥

-- There are 0x110001 links. None points backward or past 0x110000.
pub record IsChain (links : List ℕ) : Type 0 where
  pub all : length links ≡ 0x110001
  pub onward : (char : ℕ) → char ≤ 0x110000 → char ≤ slice_index links char
  pub within : (char : ℕ) → char ≤ 0x110000 → slice_index links char ≤ 0x110000

-- the first character from `from` on for which IsHeldTo does not hold, or a number past Unicode if there is none
pub record IsFree (first last : ℕ → ℕ) (count to from free : ℕ) : Type 0 where
  pub behind : from ≤ free
  pub over : (k : ℕ) → from ≤ k → k < free → IsHeldTo first last count to k
  pub none : free < 0x110000 → IsHeldTo first last count to free → ⊥

-- the list has the first `count` numbers of a function
pub record AreOf (gives : ℕ → ℕ) (count : ℕ) (numbers : List ℕ) : Type 0 where
  pub all : length numbers ≡ count
  pub each : (i : ℕ) → i < count → slice_index numbers i ≡ gives i

-- Mark attachment classes and mark glyph sets as they are written. Only contracts of private functions and proofs name this.
use Rattle.std.specs.Prelude.{◌≡◌, ◌⊎◌, ℕ, true, false, ◌+◌, ◌*◌, ◌<◌, ◌≤◌, List, [], ◌∷◌, ◌++◌, length, slice_index}
use Rattle.std.specs.List.{Contains}
use Rattle.postscript_layout_write.specs.Definitions.{in_set, mark_class}
use Rattle.postscript_layout_write.specs.Holds.{Holds}
use Rattle.postscript_layout_write.specs.Text.{array_text, coverage_text}

-- entry k is the mark attachment class of kept glyph k
pub record AreMarkClasses (gdef kept classes : List ℕ) : Type 0 where
  pub many : length classes ≡ length kept
  pub small : (k : ℕ) → k < length classes → slice_index classes k < 65536
  pub each : (k : ℕ) → k < length classes → slice_index classes k ≡ mark_class gdef (slice_index kept k)

-- the new numbers below a number that are in a set
pub record AreMembers (gdef : List ℕ) (set : ℕ) (kept : List ℕ) (count : ℕ) (members : List ℕ) : Type 0 where
  pub right : (i : ℕ) → i < length members → (slice_index members i < count) × (in_set gdef set (slice_index kept (slice_index members i)) ≡ true)
  pub all : (k : ℕ) → k < count → (in_set gdef set (slice_index kept k) ≡ false) ⊎ Contains members k

-- the coverage table of a set is there
pub record HasMembers (gdef : List ℕ) (set : ℕ) (kept bytes : List ℕ) (offset : ℕ) : Type 0 where
  pub members : List ℕ
  pub are : AreMembers gdef set kept (length kept) members
  pub few : length members ≤ 16380
  pub there : Holds (coverage_text members) bytes offset

-- an offset of four bytes and its coverage table
pub record HasSet (gdef : List ℕ) (base set : ℕ) (kept numbers bytes : List ℕ) : Type 0 where
  pub high : slice_index numbers (set * 2) ≡ 0
  pub place : ℕ
  pub low : slice_index numbers (set * 2 + 1) ≡ base + place
  pub small : base + place < 65536
  pub has : HasMembers gdef set kept bytes place

-- the offsets and the coverage tables of the first sets
pub record AreMarkSets (gdef : List ℕ) (base : ℕ) (kept : List ℕ) (count : ℕ) (numbers bytes : List ℕ) : Type 0 where
  pub many : length numbers ≡ count * 2
  pub each : (set : ℕ) → set < count → HasSet gdef base set kept numbers bytes

pub record PutsMembers (gdef : List ℕ) (set : ℕ) (kept old new : List ℕ) : Type 0 where
  pub more : List ℕ
  pub bytes : new ≡ old ++ more
  pub has : HasMembers gdef set kept new (length old)

-- the table: its header with the offset of the caret list, two lists of classes, and the sets
unfoldable pub definitions_text : (count carets : ℕ) → (classes marks : List ℕ) → (sets : ℕ) → (numbers bytes : List ℕ) → List ℕ
definitions_text count carets classes marks sets numbers bytes =
    array_text (1 ∷ 2 ∷ 14 ∷ 0 ∷ carets ∷ (20 + count * 2) ∷ (26 + count * 4) ∷ 1 ∷ 0 ∷ count ∷ []) ++ (array_text classes
    ++ (array_text (1 ∷ 0 ∷ count ∷ []) ++ (array_text marks ++ (array_text (1 ∷ sets ∷ []) ++ (array_text numbers ++ bytes)))))

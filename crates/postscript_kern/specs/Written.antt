-- The new `kern` table (OpenType 1.9, "kern - Kerning"). It has its version and the number of subtables, and then the subtables.
use Rattle.std.specs.Prelude.{◌≡◌, ℕ, Bool, true, false, ◌+◌, ◌-◌, ◌*◌, ◌^◌, ◌<◌, ◌≤◌, List, [], ◌∷◌, ◌++◌, length, flat_map}
use Rattle.postscript_kern.specs.Kept.{IsKept, Subtable}
use Rattle.postscript_kern.specs.Numbers.{uint16, uint32}
use Rattle.postscript_kern.specs.Pairs.{HasPairs, coverage_of}

-- `entrySelector` is the logarithm of the greatest power of two that is at most `nPairs`
pub record IsSelector (pairs selector : ℕ) : Type 0 where
  pub least : 2 ^ selector ≤ pairs
  pub most : pairs < 2 ^ (selector + 1)

-- a pair and its value
abbrev pub pair_text : ℕ × ℕ → List ℕ
pair_text p = uint32 p.0 ++ uint16 p.1

-- Version, length and coverage of a subtable, `nPairs`, `searchRange`, `entrySelector` and `rangeShift`
abbrev pub head_of : (coverage pairs selector : ℕ) → List ℕ
head_of coverage pairs selector =
    0 ∷ (14 + pairs * 6) ∷ coverage ∷ pairs ∷ (2 ^ selector * 6) ∷ selector ∷ ((pairs - 2 ^ selector) * 6) ∷ []

abbrev pub subtable_text : Subtable → (selector : ℕ) → List ℕ
subtable_text subtable selector =
    flat_map uint16 (head_of subtable.coverage (length subtable.pairs) selector) ++ flat_map pair_text subtable.pairs

-- the bytes of subtables, one after the other
pub data AreWritten : List Subtable → List ℕ → Type 0 where
  none : AreWritten [] []
  more : (subtables : List Subtable) (subtable : Subtable) (bytes : List ℕ) (selector : ℕ) → AreWritten subtables bytes →
      IsSelector (length subtable.pairs) selector → length subtable.pairs ≤ 10920 →
      AreWritten (subtables ++ subtable ∷ []) (bytes ++ subtable_text subtable selector)

-- the table has these subtables, and no other bytes
pub record IsTable (subtables : List Subtable) (table : List ℕ) : Type 0 where
  pub bytes : List ℕ
  pub written : AreWritten subtables bytes
  pub is : table ≡ flat_map uint16 (0 ∷ length subtables ∷ []) ++ bytes

-- a subtable is appended
pub record PutsSubtable (coverage : ℕ) (pairs : List (ℕ × ℕ)) (old new : List ℕ) : Type 0 where
  pub selector : ℕ
  pub is_selector : IsSelector (length pairs) selector
  pub is : new ≡ old ++ subtable_text (record { coverage = coverage; pairs = pairs }) selector

-- a subtable is appended if it has pairs of kept glyphs
pub data Adds (table kept : List ℕ) (at : ℕ) (old : List ℕ) : Bool → List ℕ → Type 0 where
  nothing : (HasPairs table at → IsKept table kept at []) → Adds table kept at old false old
  added : (pairs : List (ℕ × ℕ)) (new : List ℕ) → HasPairs table at → IsKept table kept at pairs → 0 < length pairs → length pairs ≤ 10920 →
      PutsSubtable (coverage_of table at) pairs old new → Adds table kept at old true new

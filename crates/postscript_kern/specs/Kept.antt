-- The pairs of kept glyphs.
use Rattle.std.specs.Prelude.{◌≡◌, ℕ, Bool, false, ◌+◌, ◌<◌, ◌==◌, List, [], ◌∷◌, ◌++◌, Option, None, Some, length, nat_eq, if◌then◌else◌}
use Rattle.std.specs.List.{All}
use Rattle.std.specs.List.Sorted.{IsStrictlyIncreasing}
use Rattle.std.specs.BTreeMap.{BTreeMap, get}
use Rattle.std.specs.Map.{keys_of, lookup}
use Rattle.std.specs.Ordering.{nat_cmp}
use Rattle.postscript_kern.specs.First.{first_some}
use Rattle.postscript_kern.specs.Pairs.{HasPairs, coverage_of, left_of, right_of, subtable_at, value_at, value_of}
use Rattle.postscript_kern.specs.Renumbering.{new_number, new_pair, pair}

-- the value of a pair in a list of pairs
abbrev pub value_in : (pairs : List (ℕ × ℕ)) → (left right : ℕ) → Option ℕ
value_in pairs left right = lookup (nat_eq (pair left right)) pairs

-- a pair of kept glyphs, under their new numbers
abbrev pub IsKeptPair : (kept : List ℕ) → (number : ℕ) → Type 0
IsKeptPair kept number = (left : ℕ) × (right : ℕ) × (new_pair kept left right ≡ Some number)

-- The pairs of kept glyphs of a subtable. Each pair of kept glyphs has its value, or none if it had none. There are no other pairs, and they
-- are in order.
pub record IsKept (table kept : List ℕ) (at : ℕ) (pairs : List (ℕ × ℕ)) : Type 0 where
  pub values : (left right x y : ℕ) → new_number kept left ≡ Some x → new_number kept right ≡ Some y →
      value_in pairs x y ≡ value_of table at left right
  pub only : All (λ p. IsKeptPair kept p.0) pairs
  pub ordered : IsStrictlyIncreasing (keys_of pairs)

-- a subtable of the new table
pub record Subtable : Type 0 where
  pub coverage : ℕ
  pub pairs : List (ℕ × ℕ)

-- the subtables of a table with pairs of kept glyphs, of the first ones, in order
pub data AreKept (table kept : List ℕ) : (count : ℕ) → List Subtable → Type 0 where
  no_subtable : AreKept table kept 0 []
  left_out : (i : ℕ) (subtables : List Subtable) → AreKept table kept i subtables →
      (HasPairs table (subtable_at table i) → IsKept table kept (subtable_at table i) []) → AreKept table kept (i + 1) subtables
  chosen : (i : ℕ) (subtables : List Subtable) (pairs : List (ℕ × ℕ)) → AreKept table kept i subtables →
      HasPairs table (subtable_at table i) → IsKept table kept (subtable_at table i) pairs → 0 < length pairs →
      AreKept table kept (i + 1) (subtables ++ (record { coverage = coverage_of table (subtable_at table i); pairs = pairs }) ∷ [])

-- Only private contracts and proofs use the definitions that follow. A number of a pair is this one.
abbrev pub is_pair : Option ℕ → (number : ℕ) → Bool
is_pair None number = false
is_pair (Some pair) number = pair == number

-- the value that record k gives to the number of a pair
abbrev pub kept_by : (table kept : List ℕ) → (at number k : ℕ) → Option ℕ
kept_by table kept at number k =
    if is_pair (new_pair kept (left_of table at k) (right_of table at k)) number then Some (value_at table at k) else None

-- the values of the first records of a subtable
abbrev pub AreCollected : (table kept : List ℕ) → (at count : ℕ) → BTreeMap ℕ ℕ → Type 0
AreCollected table kept at count pairs = (number : ℕ) → get nat_cmp pairs number ≡ first_some (kept_by table kept at number) count

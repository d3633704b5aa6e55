-- The result of a blend (OpenType 1.9, "CFF2 CharString Format": "Variation Data Operators"). Sums are exact, and each product is rounded
-- to the nearest number.
use Rattle.std.specs.Prelude.{ℕ, suc, ◌+◌, ◌*◌, ◌<◌, ◌≤◌, ℤ, pos, negsuc, neg_ℤ, ◌+ℤ◌, List, [], ◌∷◌, ◌++◌}
use Rattle.postscript_type2.specs.Program.StackRules.{IsHeld}

-- A delta times the scalar of its region, rounded to the nearest number, and away from zero if it is halfway.
pub data IsScaled (scalar : ℕ) : (delta product : ℤ) → Type 0 where
  not_below_zero : (n size : ℕ) → size * 65536 ≤ n * scalar + 32768 → n * scalar + 32768 < (size + 1) * 65536 →
      IsScaled scalar (pos n) (pos size)
  below_zero : (n size : ℕ) → size * 65536 ≤ suc n * scalar + 32768 → suc n * scalar + 32768 < (size + 1) * 65536 →
      IsScaled scalar (negsuc n) (neg_ℤ (pos size))

-- The sum of the products of deltas, one for each region.
pub data HasSum : (scalars : List ℕ) → (deltas : List ℤ) → ℤ → Type 0 where
  none : HasSum [] [] (pos 0)
  more : (scalar : ℕ) (scalars : List ℕ) (delta product : ℤ) (deltas : List ℤ) (sum : ℤ) →
      IsScaled scalar delta product → HasSum scalars deltas sum → HasSum (scalar ∷ scalars) (delta ∷ deltas) (product +ℤ sum)

-- Default values, the deltas of each, and the blended values, which fit into 32 bits.
pub data AreBlended (scalars : List ℕ) : (nums deltas vals : List ℤ) → Type 0 where
  none : AreBlended scalars [] [] []
  more : (num : ℤ) (nums mine deltas : List ℤ) (sum : ℤ) (vals : List ℤ) → HasSum scalars mine sum → IsHeld (num +ℤ sum) →
      AreBlended scalars nums deltas vals → AreBlended scalars (num ∷ nums) (mine ++ deltas) ((num +ℤ sum) ∷ vals)

-- A blended value does not fit into 32 bits, and all values before it do.
pub data LeavesRange (scalars : List ℕ) : (nums deltas : List ℤ) → Type 0 where
  here : (num : ℤ) (nums mine deltas : List ℤ) (sum : ℤ) → HasSum scalars mine sum → ¬ IsHeld (num +ℤ sum) →
      LeavesRange scalars (num ∷ nums) (mine ++ deltas)
  later : (num : ℤ) (nums mine deltas : List ℤ) (sum : ℤ) → HasSum scalars mine sum → IsHeld (num +ℤ sum) →
      LeavesRange scalars nums deltas → LeavesRange scalars (num ∷ nums) (mine ++ deltas)

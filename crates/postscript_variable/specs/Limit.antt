-- How a limit is spent on a run. It is no rule of the specification: it bounds the time of a call.
use Rattle.std.specs.Prelude.{◌≡◌, ◌⊎◌, ℕ, ◌+◌, ◌-◌, ◌<◌, ◌≤◌, List, [], ◌∷◌, ◌++◌, length}

-- the sum of these costs
abbrev pub cost : (costs : List ℕ) → ℕ
cost [] = 0
cost (first ∷ more) = first + cost more

-- Numbers and operators with these costs are read in order, within a limit. `left` is the rest of the limit, and `rest` are the costs still
-- to be read. Each one is begun only while the limit is above 0, and costs something. It takes its cost, or all of the limit that is left
-- if it costs more.
pub data Spends (limit : ℕ) (costs : List ℕ) : (left : ℕ) → (rest : List ℕ) → Type 0 where
  nothing : Spends limit costs limit costs
  one_more : (left price : ℕ) (rest : List ℕ) → Spends limit costs left (price ∷ rest) → 0 < left → 0 < price →
      Spends limit costs (left - price) rest

-- Laws of the definitions. The spent limit is the cost of the items that were read, which are the first ones. All of them but the last cost
-- less than the limit.
abbrev pub LimitIsCost : Type 0
LimitIsCost = (limit : ℕ) (costs : List ℕ) (left : ℕ) (rest : List ℕ) → Spends limit costs left rest →
    (read : List ℕ) × (costs ≡ read ++ rest) × (left ≡ limit - cost read) ×
    ((read ≡ []) ⊎ ((before : List ℕ) × (last : ℕ) × (read ≡ before ++ last ∷ []) × (cost before < limit)))

-- If the limit is above all costs, the rest of the limit is above the remaining costs, and nothing is lost.
abbrev pub LimitLasts : Type 0
LimitLasts = (limit : ℕ) (costs : List ℕ) (left : ℕ) (rest : List ℕ) → Spends limit costs left rest → cost costs < limit →
    (cost rest < left) × (left + cost costs ≡ limit + cost rest)

-- The number of items that are read is at most the number of units that are spent.
abbrev pub LimitBoundsSteps : Type 0
LimitBoundsSteps = (limit : ℕ) (costs : List ℕ) (left : ℕ) (rest : List ℕ) → Spends limit costs left rest →
    length costs + left ≤ length rest + limit

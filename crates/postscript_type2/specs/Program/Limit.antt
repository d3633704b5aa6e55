-- The cost of runs, and how a limit is spent on them. This is not a rule of the Note: it bounds the time of a call.
use Rattle.std.specs.Prelude.{◌≡◌, ◌⊎◌, ℕ, ◌+◌, ◌*◌, ◌-◌, ◌<◌, ◌≤◌, List, [], ◌∷◌, ◌++◌, length}
use Rattle.postscript_type2.specs.declared.operation.Operator.{Operator}
use Rattle.postscript_type2.specs.declared.operation.Operator.TheVariants.{Roll, Sqrt}
use Rattle.postscript_type2.specs.Program.Flat.{flat_text}
use Rattle.postscript_type2.specs.Program.Runs.{Phrase}

-- A phrase costs one unit for each of its bytes, including its mask. A roll costs 4096 more, since it moves up to 32,767 operands. A square
-- root costs 8 more, since it takes as long as several other operators. The work of any other operator is bounded by a small constant.
abbrev pub cost_beside : Operator → ℕ
cost_beside Roll = 4096
cost_beside Sqrt = 8
cost_beside op = 0

abbrev pub cost_of : Phrase → ℕ
cost_of said = length said.bytes + cost_beside said.operator

-- the cost of phrases
abbrev pub cost : List Phrase → ℕ
cost [] = 0
cost (said ∷ more) = cost_of said + cost more

-- Some of these phrases are run in order within a limit. `left` is the rest of the limit, and `rest` the phrases that remain. A phrase is
-- run only while units are left. It costs at least one unit, and takes its cost, or all units left if it costs more.
pub data Spends (limit : ℕ) (phrases : List Phrase) : (left : ℕ) → (rest : List Phrase) → Type 0 where
  nothing : Spends limit phrases limit phrases
  one_more : (left : ℕ) (said : Phrase) (rest : List Phrase) → Spends limit phrases left (said ∷ rest) → 0 < left → 0 < cost_of said →
      Spends limit phrases (left - cost_of said) rest

-- at most one phrase is left when a run fails: the one at which it fails
abbrev pub IsLast : List Phrase → Type 0
IsLast phrases = length phrases ≤ 1

-- Laws of the definitions. The phrases that were run are at the front of the list, and the limit minus their cost is left, or 0. All of
-- them except the last cost less than the limit.
abbrev pub LimitIsCost : Type 0
LimitIsCost = (limit : ℕ) (phrases : List Phrase) (left : ℕ) (rest : List Phrase) → Spends limit phrases left rest →
    (ran : List Phrase) × (phrases ≡ ran ++ rest) × (left ≡ limit - cost ran) ×
    ((ran ≡ []) ⊎ ((before : List Phrase) × (last : Phrase) × (ran ≡ before ++ last ∷ []) × (cost before < limit)))

-- A law: a limit above the cost of all phrases stays above the cost of the rest, and only costs are spent.
abbrev pub LimitLasts : Type 0
LimitLasts = (limit : ℕ) (phrases : List Phrase) (left : ℕ) (rest : List Phrase) → Spends limit phrases left rest → cost phrases < limit →
    (cost rest < left) × (left + cost phrases ≡ limit + cost rest)

-- A law: at most one phrase is run for each unit that is spent.
abbrev pub LimitBoundsPhrases : Type 0
LimitBoundsPhrases = (limit : ℕ) (phrases : List Phrase) (left : ℕ) (rest : List Phrase) → Spends limit phrases left rest →
    length phrases + left ≤ length rest + limit

-- A law: the length of flat text is at most the cost of its phrases, plus three for each phrase.
abbrev pub FlatIsBounded : Type 0
FlatIsBounded = (phrases : List Phrase) → length (flat_text phrases) ≤ cost phrases + 3 * length phrases

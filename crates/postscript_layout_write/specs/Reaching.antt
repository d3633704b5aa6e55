-- How a list of lookups grows. Only contracts of private functions and proofs name this.
use Rattle.std.specs.Prelude.{◌≡◌, ◌⊎◌, ℕ, ◌<◌, Bool, false, List, slice_index, slice_index_or}
use Rattle.std.specs.List.{All, Contains}
use Rattle.postscript_layout_write.specs.Calls.{AppliesTo, Calls, HasCalled}
use Rattle.postscript_layout_write.specs.ContextRules.{rule_of, rule_parts}
use Rattle.postscript_layout_write.specs.Labels.{listed_context}
use Rattle.postscript_layout_write.specs.RuleSets.{Begins}
use Rattle.postscript_layout_write.specs.Substituting.{is_chosen}
use Rattle.postscript_layout_write.specs.declared.labels.Labels.{Labels}

-- the marks that are set are those of lookups of the list
abbrev pub AreNoted : (marks : List Bool) → (lookups : List ℕ) → Type 0
AreNoted marks lookups = (m : ℕ) → slice_index_or marks m false ≡ is_chosen lookups m

-- all numbers with a property are added to a list, and no others
pub record AddsOnly (P : ℕ → Type 0) (old new : List ℕ) : Type 0 where
  pub begins : Begins old new
  pub there : (m : ℕ) → P m → Contains new m
  pub only : (m : ℕ) → Contains new m → Contains old m ⊎ P m

-- one of the first `count` rules of a set calls a lookup, by labels
abbrev pub ListedCalls : (gsub : List ℕ) → (type : ℕ) → Labels → (start : List ℕ) → (set count : ℕ) → (m : ℕ) → Type 0
ListedCalls gsub type labels start set count m = (k : ℕ) × (k < count)
    × AppliesTo gsub (listed_context gsub labels start (rule_parts gsub type (rule_of gsub set k))) (rule_parts gsub type (rule_of gsub set k)) m

-- The list has the given lookups, and what the first `count` of its lookups call. Each list with the given ones that has what it calls has all of it.
pub record IsFollowed (gsub kept given : List ℕ) (count : ℕ) (lookups : List ℕ) : Type 0 where
  pub begins : Begins given lookups
  pub called : (k m : ℕ) → k < count → Calls gsub kept (slice_index lookups k) m → Contains lookups m
  pub least : (other : List ℕ) → HasCalled gsub kept other → All (Contains other) given → All (Contains other) lookups

-- the least list that begins with the given lookups and has what it calls
pub record AreFollowed (gsub kept given lookups : List ℕ) : Type 0 where
  pub begins : Begins given lookups
  pub called : HasCalled gsub kept lookups
  pub least : (other : List ℕ) → HasCalled gsub kept other → All (Contains other) given → All (Contains other) lookups

-- The lookups that contexts apply: their actions name them. A context calls lookups only if it can apply: each of its sets has one of the kept glyphs.
use Rattle.std.specs.Prelude.{◌≡◌, ℕ, ◌+◌, ◌*◌, ◌<◌, ◌==◌, Bool, true, false, List, Option, None, Some}
use Rattle.std.specs.List.{Contains}
use Rattle.postscript_layout.specs.Numbers.{word}
use Rattle.postscript_layout_write.specs.ContextRules.{rule_context, rule_of, rule_parts, set_of, sets_of}
use Rattle.postscript_layout_write.specs.Contexts.{context_of, is_contextual, parts_of}
use Rattle.postscript_layout_write.specs.Pairs.{lookup_at, lookups_of}
use Rattle.postscript_layout_write.specs.Rules.{part_at, type_at}
use Rattle.postscript_layout_write.specs.Sequences.{Context, can_apply}
use Rattle.postscript_layout_write.specs.declared.contexts.Parts.{Parts}

-- an action has the index of a position and the index of a lookup; action r names this lookup
abbrev pub IsNamedBy : List ℕ → Parts → (r m : ℕ) → Type 0
IsNamedBy gsub parts r m = (r < parts.actions) × (word gsub (parts.actions_at + r * 4 + 2) ≡ m)

-- a context with these parts can apply, and one of its actions names a lookup
abbrev pub AppliesTo : List ℕ → Context → Parts → (m : ℕ) → Type 0
AppliesTo gsub context parts m = (can_apply context ≡ true) × ((r : ℕ) × IsNamedBy gsub parts r m)

-- a rule of set i calls a lookup (formats 1 and 2)
abbrev pub CallsInSet : (gsub kept : List ℕ) → (type subtable i : ℕ) → (set : Option ℕ) → (m : ℕ) → Type 0
CallsInSet gsub kept type subtable i None m = ⊥
CallsInSet gsub kept type subtable i (Some set) m = (k : ℕ) × (k < word gsub set)
    × AppliesTo gsub (rule_context gsub kept type subtable i (rule_parts gsub type (rule_of gsub set k))) (rule_parts gsub type (rule_of gsub set k)) m

-- a subtable calls a lookup in its context, if it has format 3, which is by coverage tables, or in a rule of some set
abbrev pub CallsBy : (gsub kept : List ℕ) → (type subtable : ℕ) → (by_coverages : Bool) → (m : ℕ) → Type 0
CallsBy gsub kept type subtable true m = AppliesTo gsub (context_of gsub kept type subtable) (parts_of gsub type subtable) m
CallsBy gsub kept type subtable false m =
    (i : ℕ) × (i < word gsub (sets_of gsub type subtable)) × CallsInSet gsub kept type subtable i (set_of gsub type subtable i) m

-- a subtable with contexts calls a lookup
abbrev pub CallsIn : (gsub kept : List ℕ) → (type : ℕ) → (subtable : Option ℕ) → (m : ℕ) → Type 0
CallsIn gsub kept type None m = ⊥
CallsIn gsub kept type (Some subtable) m = CallsBy gsub kept type subtable (word gsub subtable == 3) m

-- a lookup of contexts at an offset calls lookup m in its subtable j
abbrev pub CallsAt : (gsub kept : List ℕ) → (lookup j m : ℕ) → Type 0
CallsAt gsub kept lookup j m =
    (j < word gsub (lookup + 4)) × CallsIn gsub kept (type_at gsub lookup) (part_at gsub lookup (type_at gsub lookup) j) m

-- lookup i has contexts, of which one that can apply to kept glyphs calls lookup m
pub record Calls (gsub kept : List ℕ) (i m : ℕ) : Type 0 where
  pub there : i < lookups_of gsub
  pub contextual : is_contextual gsub (lookup_at gsub i) ≡ true
  pub j : ℕ
  pub calls : CallsAt gsub kept (lookup_at gsub i) j m

-- with each lookup, a list has those that it calls
abbrev pub HasCalled : (gsub kept lookups : List ℕ) → Type 0
HasCalled gsub kept lookups = (i m : ℕ) → Contains lookups i → Calls gsub kept i m → Contains lookups m

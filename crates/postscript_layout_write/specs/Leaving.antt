-- The chosen lookups that are left out, because of their type, the format of their subtables or their flag.
use Rattle.std.specs.Prelude.{ℕ, Bool, true, false, ◌+◌, ◌==◌, ◌&&◌, ◌||◌, List, [], ◌∷◌, nat_lt, not, if◌then◌else◌}
use Rattle.postscript_layout.specs.Numbers.{word}
use Rattle.postscript_layout_write.specs.Contexts.{is_contextual}
use Rattle.postscript_layout_write.specs.First.{all_below}
use Rattle.postscript_layout_write.specs.Pairs.{lookup_at}
use Rattle.postscript_layout_write.specs.Rules.{is_kept, type_at}
use Rattle.postscript_layout_write.specs.Substituting.{is_chosen, takes_flag}

-- whether the lookup at an offset has a type and a flag with which rules, contexts or reverse chaining subtables are kept
abbrev pub can_keep : (whole : Bool) → List ℕ → (lookup : ℕ) → Bool
can_keep whole gsub lookup =
    ((is_kept (type_at gsub lookup) || is_contextual gsub lookup) || (type_at gsub lookup == 8)) && takes_flag whole (word gsub (lookup + 2))

-- whether lookup i is chosen and has subtables, but no rules or contexts of it are kept
abbrev pub is_left : (whole : Bool) → (gsub chosen : List ℕ) → (i lookup : ℕ) → Bool
is_left whole gsub chosen i lookup = (nat_lt 0 (word gsub (lookup + 4)) && not (can_keep whole gsub lookup)) && is_chosen chosen i

-- the lookups below a number that are left out, in order
abbrev pub left_by : (whole : Bool) → (gsub chosen : List ℕ) → (count : ℕ) → List ℕ
left_by whole gsub chosen count = all_below (λ i. if is_left whole gsub chosen i (lookup_at gsub i) then i ∷ [] else []) count

-- without lookups that use classes or sets of marks
abbrev pub left_below : (gsub chosen : List ℕ) → (count : ℕ) → List ℕ
left_below gsub chosen count = left_by false gsub chosen count

-- with them
abbrev pub flagged_left_below : (gsub chosen : List ℕ) → (count : ℕ) → List ℕ
flagged_left_below gsub chosen count = left_by true gsub chosen count

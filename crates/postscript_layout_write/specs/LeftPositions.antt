-- The lookups of the GPOS table that are left out, because of their type or their flag.
use Rattle.std.specs.Prelude.{ℕ, Bool, ◌+◌, ◌&&◌, ◌||◌, List, [], ◌∷◌, nat_lt, not, if◌then◌else◌}
use Rattle.postscript_layout.specs.Numbers.{word}
use Rattle.postscript_layout_write.specs.First.{all_below}
use Rattle.postscript_layout_write.specs.Marks.{type_at}
use Rattle.postscript_layout_write.specs.Pairs.{lookup_at}
use Rattle.postscript_layout_write.specs.PositionContexts.{is_contextual}
use Rattle.postscript_layout_write.specs.Positions.{has_no_pairs, is_kept_type}
use Rattle.postscript_layout_write.specs.Scopes.{leaves_out}
use Rattle.postscript_layout_write.specs.declared.scope.Scope.{Scope}
use Rattle.postscript_layout_write.specs.declared.scope.Scope.TheVariants.{Flags, Marks}

-- whether the lookup at an offset has positions that are kept: those of pairs or of a type of which all subtables are kept, or contexts of sets of glyphs
abbrev pub has_positions : List ℕ → (lookup : ℕ) → Bool
has_positions gpos lookup = (is_kept_type (type_at gpos lookup) || is_contextual gpos lookup) || not (has_no_pairs gpos lookup)

-- whether a lookup has subtables, but they are not kept
abbrev pub is_left : Scope → List ℕ → (lookup : ℕ) → Bool
is_left scope gpos lookup = nat_lt 0 (word gpos (lookup + 4)) && (leaves_out scope (word gpos (lookup + 2)) || not (has_positions gpos lookup))

-- the lookups below a number that are left out, in order
abbrev pub left_by : Scope → List ℕ → (count : ℕ) → List ℕ
left_by scope gpos count = all_below (λ i. if is_left scope gpos (lookup_at gpos i) then i ∷ [] else []) count

-- those that are left out because of their type, or because of a flag above bit 3
abbrev pub left_below : List ℕ → (count : ℕ) → List ℕ
left_below gpos count = left_by Marks gpos count

-- those that are left out because of their type
abbrev pub left_with_flags_below : List ℕ → (count : ℕ) → List ℕ
left_with_flags_below gpos count = left_by Flags gpos count

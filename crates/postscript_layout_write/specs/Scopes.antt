-- What is kept of a table. Only contracts of private functions and proofs name this.
use Rattle.std.specs.Prelude.{ℕ, Bool, false, ◌+◌, ◌%◌, ◌&&◌, List, [], length, nat_lt, slice_index, if◌then◌else◌}
use Rattle.postscript_layout.specs.Numbers.{word}
use Rattle.postscript_layout_write.specs.Flags.{has_contexts, has_kept_type, uses_set}
use Rattle.postscript_layout_write.specs.Pairs.{by_lookup}
use Rattle.postscript_layout_write.specs.Positions.{keeps_contexts, keeps_type}
use Rattle.postscript_layout_write.specs.Text.{uint16}
use Rattle.postscript_layout_write.specs.Values.{nothing}
use Rattle.postscript_layout_write.specs.declared.scope.Scope.{Scope}
use Rattle.postscript_layout_write.specs.declared.scope.Scope.TheVariants.{Flags, Marks, Pairs}
use Rattle.postscript_layout_write.specs.declared.values.Adjustment.{Adjustment}

-- whether a lookup with a flag is left out
abbrev pub leaves_out : Scope → (flag : ℕ) → Bool
leaves_out Pairs flag = nat_lt 15 flag
leaves_out Marks flag = nat_lt 15 flag
leaves_out Flags flag = false

-- the flag that is written
abbrev pub new_flag : Scope → (flag : ℕ) → ℕ
new_flag Pairs flag = flag % 16
new_flag Marks flag = flag % 16
new_flag Flags flag = flag

-- whether a lookup is written with its type and a subtable for each old one
abbrev pub takes_type : Scope → List ℕ → (lookup : ℕ) → Bool
takes_type Pairs gpos lookup = false
takes_type Marks gpos lookup = keeps_type gpos lookup
takes_type Flags gpos lookup = has_kept_type gpos lookup

-- whether a lookup is written with its contexts
abbrev pub takes_contexts : Scope → List ℕ → (lookup : ℕ) → Bool
takes_contexts Pairs gpos lookup = false
takes_contexts Marks gpos lookup = keeps_contexts gpos lookup
takes_contexts Flags gpos lookup = has_contexts gpos lookup

-- the adjustment of a pair that is kept
abbrev pub pair_by : Scope → List ℕ → (lookup first second : ℕ) → Adjustment
pair_by scope gpos lookup first second = if leaves_out scope (word gpos (lookup + 2)) then nothing else by_lookup gpos lookup first second

abbrev pub new_pair : Scope → (gpos kept : List ℕ) → (lookup x y : ℕ) → Adjustment
new_pair scope gpos kept lookup x y =
    if nat_lt x (length kept) && nat_lt y (length kept) then pair_by scope gpos lookup (slice_index kept x) (slice_index kept y) else nothing

-- the set of marks that follows the offsets of the subtables
abbrev pub mark_set_text : (flag set : ℕ) → List ℕ
mark_set_text flag set = if uses_set flag then uint16 set else []

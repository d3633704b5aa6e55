-- The connections of glyphs by a lookup of the GPOS table (OpenType 1.9, "GPOS - Glyph Positioning Table", "Lookup type 3 subtable: cursive attachment
-- positioning"; ISO/IEC 14496-22, 6.3.3).
use Rattle.std.specs.Prelude.{ℕ, ◌+◌, ◌*◌, ◌==◌, List, Option, None, Some, nat_lt, if◌then◌else◌}
use Rattle.postscript_layout.specs.Numbers.{word}
use Rattle.postscript_layout_write.specs.First.{first_some}
use Rattle.postscript_layout_write.specs.Marks.{attaching_at, optional_anchor, type_at}
use Rattle.postscript_layout_write.specs.Pairs.{lookup_at}
use Rattle.postscript_layout_write.specs.Ranges.{coverage_index}
use Rattle.postscript_layout_write.specs.declared.anchors.Anchor.{Anchor}
use Rattle.postscript_layout_write.specs.declared.anchors.Ends.{Ends}

-- the exit anchor of a glyph and the entry anchor of the next glyph, which are at the same point
pub record Connection : Type 0 where
  pub exit : Anchor
  pub entry : Anchor

-- the entry and exit anchors of the glyph with coverage index i
abbrev pub ends_in : List ℕ → (subtable i : ℕ) → Option Ends
ends_in gpos subtable i =
    if nat_lt i (word gpos (subtable + 4)) then Some (record {
      entry = optional_anchor gpos subtable (word gpos (subtable + 6 + i * 4));
      exit = optional_anchor gpos subtable (word gpos (subtable + 8 + i * 4));
    }) else None

abbrev pub ends_covered : List ℕ → (subtable : ℕ) → (index : Option ℕ) → Option Ends
ends_covered gpos subtable None = None
ends_covered gpos subtable (Some i) = ends_in gpos subtable i

-- the entry and exit anchors of a glyph in a subtable
abbrev pub ends_of : List ℕ → (subtable : Option ℕ) → (glyph : ℕ) → Option Ends
ends_of gpos None glyph = None
ends_of gpos (Some subtable) glyph = ends_covered gpos subtable (coverage_index gpos (subtable + word gpos (subtable + 2)) glyph)

abbrev pub entry_of : Option Ends → Option Anchor
entry_of None = None
entry_of (Some ends) = ends.entry

abbrev pub exit_of : Option Ends → Option Anchor
exit_of None = None
exit_of (Some ends) = ends.exit

abbrev pub joined : (exit entry : Option Anchor) → Option Connection
joined None entry = None
joined (Some exit) None = None
joined (Some exit) (Some entry) = Some (record { exit = exit; entry = entry })

-- the connection of a glyph to the next one: the first glyph has an exit anchor, and the second one an entry anchor
abbrev pub by_subtable : List ℕ → (subtable : Option ℕ) → (first second : ℕ) → Option Connection
by_subtable gpos subtable first second = joined (exit_of (ends_of gpos subtable first)) (entry_of (ends_of gpos subtable second))

-- the connection by the first subtable of a lookup that connects the glyphs
abbrev pub by_subtables : List ℕ → (lookup first second : ℕ) → Option Connection
by_subtables gpos lookup first second = first_some (λ j. by_subtable gpos (attaching_at gpos lookup 3 j) first second) (word gpos (lookup + 4))

-- the connection of two glyphs by the lookup at an offset
abbrev pub by_lookup : List ℕ → (lookup first second : ℕ) → Option Connection
by_lookup gpos lookup first second = if type_at gpos lookup == 3 then by_subtables gpos lookup first second else None

-- the connection of two glyphs by lookup i
abbrev pub connection : List ℕ → (i first second : ℕ) → Option Connection
connection gpos i first second = by_lookup gpos (lookup_at gpos i) first second

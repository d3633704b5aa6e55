-- The attachment of marks to components of ligatures by a lookup of the GPOS table (OpenType 1.9, "GPOS - Glyph Positioning Table", "Lookup type 5
-- subtable: mark-to-ligature attachment positioning"; ISO/IEC 14496-22, 6.3.3).
use Rattle.std.specs.Prelude.{ℕ, ◌+◌, ◌-◌, ◌*◌, ◌==◌, List, Option, None, Some, nat_lt, if◌then◌else◌}
use Rattle.postscript_layout.specs.Numbers.{word}
use Rattle.postscript_layout_write.specs.First.{first_some}
use Rattle.postscript_layout_write.specs.Marks.{Attachment, Mark, anchor_in, attached, attaching_at, mark_of, type_at}
use Rattle.postscript_layout_write.specs.Pairs.{lookup_at}
use Rattle.postscript_layout_write.specs.Ranges.{coverage_index}

-- an attachment to a component, and the number of components of the ligature
pub record ToComponent : Type 0 where
  pub components : ℕ
  pub attachment : Attachment

-- the table of ligature i, which has a row of anchors for each component
abbrev pub ligature_in : List ℕ → (array i : ℕ) → Option ℕ
ligature_in gpos array i = if nat_lt i (word gpos array) then Some (array + word gpos (array + 2 + i * 2)) else None

abbrev pub ligature_covered : List ℕ → (array : ℕ) → (index : Option ℕ) → Option ℕ
ligature_covered gpos array None = None
ligature_covered gpos array (Some i) = ligature_in gpos array i

-- the table of a ligature glyph in a subtable
abbrev pub ligature_of : List ℕ → (subtable glyph : ℕ) → Option ℕ
ligature_of gpos subtable glyph =
    ligature_covered gpos (subtable + word gpos (subtable + 10)) (coverage_index gpos (subtable + word gpos (subtable + 4)) glyph)

-- a component, or the last one if there are fewer
abbrev pub component_of : (components component : ℕ) → ℕ
component_of components component = if nat_lt component components then component else components - 1

abbrev pub counted : (components : ℕ) → Option Attachment → Option ToComponent
counted components None = None
counted components (Some attachment) = Some (record { components = components; attachment = attachment })

-- the attachment of a mark to a component of the ligature with a table
abbrev pub to_component : List ℕ → (classes : ℕ) → Option Mark → (ligature : Option ℕ) → (component : ℕ) → Option ToComponent
to_component gpos classes mark None component = None
to_component gpos classes mark (Some ligature) component =
    counted (word gpos ligature) (attached mark (λ class. anchor_in gpos ligature classes (component_of (word gpos ligature) component) class))

-- the attachment of a mark to a component of a ligature by a subtable
abbrev pub by_subtable : List ℕ → (subtable : Option ℕ) → (mark ligature component : ℕ) → Option ToComponent
by_subtable gpos None mark ligature component = None
by_subtable gpos (Some subtable) mark ligature component =
    to_component gpos (word gpos (subtable + 6)) (mark_of gpos subtable mark) (ligature_of gpos subtable ligature) component

-- the attachment by the first subtable of a lookup that attaches the mark to the component
abbrev pub by_subtables : List ℕ → (lookup mark ligature component : ℕ) → Option ToComponent
by_subtables gpos lookup mark ligature component =
    first_some (λ j. by_subtable gpos (attaching_at gpos lookup 5 j) mark ligature component) (word gpos (lookup + 4))

-- the attachment of a mark to a component of a ligature by the lookup at an offset
abbrev pub by_lookup : List ℕ → (lookup mark ligature component : ℕ) → Option ToComponent
by_lookup gpos lookup mark ligature component =
    if type_at gpos lookup == 5 then by_subtables gpos lookup mark ligature component else None

-- the attachment of a mark to a component of a ligature by lookup i
abbrev pub attachment : List ℕ → (i mark ligature component : ℕ) → Option ToComponent
attachment gpos i mark ligature component = by_lookup gpos (lookup_at gpos i) mark ligature component

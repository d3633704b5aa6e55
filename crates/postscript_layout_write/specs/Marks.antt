-- The attachment of marks by a lookup of the GPOS table (OpenType 1.9, "GPOS - Glyph Positioning Table", "Lookup type 4 subtable: mark-to-base
-- attachment positioning", "Lookup type 6 subtable: mark-to-mark attachment positioning" and "Lookup type 9 subtable: positioning subtable
-- extension"; ISO/IEC 14496-22, 6.3.3). Types 4 and 6 have the same tables: in type 6 the base is a mark. Contour points and device tables of
-- anchors are left out.
use Rattle.std.specs.Prelude.{ℕ, Bool, ◌+◌, ◌*◌, ◌==◌, ◌&&◌, ◌||◌, List, Option, None, Some, nat_lt, if◌then◌else◌}
use Rattle.postscript_layout.specs.Numbers.{word, long}
use Rattle.postscript_layout_write.specs.First.{first_some}
use Rattle.postscript_layout_write.specs.Pairs.{lookup_at}
use Rattle.postscript_layout_write.specs.Ranges.{coverage_index}
use Rattle.postscript_layout_write.specs.declared.anchors.Anchor.{Anchor}

-- a mark: its class, and its anchor
pub record Mark : Type 0 where
  pub class : ℕ
  pub anchor : Anchor

-- the anchor of a mark and the anchor of its base, which are at the same point
pub record Attachment : Type 0 where
  pub mark : Anchor
  pub base : Anchor

abbrev pub point : (x y : ℕ) → Anchor
point x y = record { x = x; y = y }

-- the anchor at an offset of a table; an anchor of an unknown format, and that of a mark whose offset is NULL, is at the origin
abbrev pub anchor_at : List ℕ → (table offset : ℕ) → Anchor
anchor_at gpos table offset =
    if nat_lt 0 offset && (nat_lt 0 (word gpos (table + offset)) && nat_lt (word gpos (table + offset)) 4)
    then point (word gpos (table + offset + 2)) (word gpos (table + offset + 4)) else point 0 0

-- mark i of a mark array
abbrev pub mark_in : List ℕ → (array i : ℕ) → Option Mark
mark_in gpos array i =
    if nat_lt i (word gpos array)
    then Some (record { class = word gpos (array + 2 + i * 4); anchor = anchor_at gpos array (word gpos (array + 4 + i * 4)) }) else None

-- the anchor at an offset of a table; if the offset is NULL, there is none
abbrev pub optional_anchor : List ℕ → (table offset : ℕ) → Option Anchor
optional_anchor gpos table offset = if offset == 0 then None else Some (anchor_at gpos table offset)

-- the anchor of base i for a class of marks, in an array with an offset for each class
abbrev pub anchor_in : List ℕ → (array classes i class : ℕ) → Option Anchor
anchor_in gpos array classes i class =
    if nat_lt i (word gpos array) && nat_lt class classes
    then optional_anchor gpos array (word gpos (array + 2 + (i * classes + class) * 2)) else None

abbrev pub mark_covered : List ℕ → (array : ℕ) → (index : Option ℕ) → Option Mark
mark_covered gpos array None = None
mark_covered gpos array (Some i) = mark_in gpos array i

abbrev pub anchor_covered : List ℕ → (array classes : ℕ) → (index : Option ℕ) → (class : ℕ) → Option Anchor
anchor_covered gpos array classes None class = None
anchor_covered gpos array classes (Some i) class = anchor_in gpos array classes i class

-- the mark that a glyph is in a subtable
abbrev pub mark_of : List ℕ → (subtable glyph : ℕ) → Option Mark
mark_of gpos subtable glyph =
    mark_covered gpos (subtable + word gpos (subtable + 8)) (coverage_index gpos (subtable + word gpos (subtable + 2)) glyph)

-- the anchor of a base glyph in a subtable for a class of marks
abbrev pub anchor_of : List ℕ → (subtable glyph class : ℕ) → Option Anchor
anchor_of gpos subtable glyph class =
    anchor_covered gpos (subtable + word gpos (subtable + 10)) (word gpos (subtable + 6))
    (coverage_index gpos (subtable + word gpos (subtable + 4)) glyph) class

abbrev pub met : (mark : Anchor) → (base : Option Anchor) → Option Attachment
met mark None = None
met mark (Some base) = Some (record { mark = mark; base = base })

-- a mark is attached to the anchor for its class
abbrev pub attached : Option Mark → (base : (class : ℕ) → Option Anchor) → Option Attachment
attached None base = None
attached (Some mark) base = met mark.anchor (base mark.class)

-- the offset of subtable j of a lookup, if it has a type; an extension is the subtable that it names
abbrev pub typed_at : List ℕ → (lookup type j : ℕ) → Option ℕ
typed_at gpos lookup type j =
    let part = lookup + word gpos (lookup + 6 + j * 2) in
    if word gpos lookup == type then Some part
    else (if (word gpos lookup == 9) && (word gpos (part + 2) == type) then Some (part + long gpos (part + 4)) else None)

-- the same, if it also has format 1
abbrev pub of_format1 : List ℕ → (subtable : Option ℕ) → Option ℕ
of_format1 gpos None = None
of_format1 gpos (Some subtable) = if word gpos subtable == 1 then Some subtable else None

abbrev pub attaching_at : List ℕ → (lookup type j : ℕ) → Option ℕ
attaching_at gpos lookup type j = of_format1 gpos (typed_at gpos lookup type j)

-- the attachment of a mark to a base by a subtable
abbrev pub by_subtable : List ℕ → (subtable : Option ℕ) → (mark base : ℕ) → Option Attachment
by_subtable gpos None mark base = None
by_subtable gpos (Some subtable) mark base = attached (mark_of gpos subtable mark) (λ class. anchor_of gpos subtable base class)

-- the attachment by the first subtable of a lookup that attaches the mark to the base
abbrev pub by_subtables : List ℕ → (lookup type mark base : ℕ) → Option Attachment
by_subtables gpos lookup type mark base = first_some (λ j. by_subtable gpos (attaching_at gpos lookup type j) mark base) (word gpos (lookup + 4))

-- the type of a lookup; an extension has the type of its first subtable
abbrev pub type_at : List ℕ → (lookup : ℕ) → ℕ
type_at gpos lookup = if word gpos lookup == 9 then word gpos (lookup + word gpos (lookup + 6) + 2) else word gpos lookup

-- the types that attach marks to single glyphs
abbrev pub attaches : (type : ℕ) → Bool
attaches type = (type == 4) || (type == 6)

-- the attachment of a mark to a base by the lookup at an offset
abbrev pub by_lookup : List ℕ → (lookup mark base : ℕ) → Option Attachment
by_lookup gpos lookup mark base = if attaches (type_at gpos lookup) then by_subtables gpos lookup (type_at gpos lookup) mark base else None

-- the attachment of a mark to a base by lookup i
abbrev pub attachment : List ℕ → (i mark base : ℕ) → Option Attachment
attachment gpos i mark base = by_lookup gpos (lookup_at gpos i) mark base

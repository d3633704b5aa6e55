-- The adjustments of single glyphs by a lookup of the GPOS table (OpenType 1.9, "GPOS - Glyph Positioning Table", "Lookup type 1 subtable: single
-- adjustment positioning"; ISO/IEC 14496-22, 6.3.3).
use Rattle.std.specs.Prelude.{ℕ, ◌+◌, ◌*◌, ◌==◌, ◌&&◌, List, Option, None, Some, nat_lt, if◌then◌else◌}
use Rattle.postscript_layout.specs.Numbers.{word}
use Rattle.postscript_layout_write.specs.First.{first_some}
use Rattle.postscript_layout_write.specs.Marks.{type_at, typed_at}
use Rattle.postscript_layout_write.specs.Pairs.{lookup_at}
use Rattle.postscript_layout_write.specs.Ranges.{coverage_index}
use Rattle.postscript_layout_write.specs.Values.{size_of, values_at}
use Rattle.postscript_layout_write.specs.declared.values.Values.{Values}

-- the value record of the glyph with coverage index i: the same for all glyphs (format 1), or one of an array (format 2)
abbrev pub record_of : List ℕ → (subtable i : ℕ) → Option ℕ
record_of gpos subtable i =
    if word gpos subtable == 1 then Some (subtable + 6)
    else (if (word gpos subtable == 2) && nat_lt i (word gpos (subtable + 6))
    then Some (subtable + 8 + i * size_of (word gpos (subtable + 4))) else None)

abbrev pub values_by : List ℕ → (subtable : ℕ) → (values : Option ℕ) → Option Values
values_by gpos subtable None = None
values_by gpos subtable (Some values) = Some (values_at gpos values (word gpos (subtable + 4)))

abbrev pub values_covered : List ℕ → (subtable : ℕ) → (index : Option ℕ) → Option Values
values_covered gpos subtable None = None
values_covered gpos subtable (Some i) = values_by gpos subtable (record_of gpos subtable i)

-- the adjustment of a glyph by a subtable, if the subtable applies to the glyph
abbrev pub by_subtable : List ℕ → (subtable : Option ℕ) → (glyph : ℕ) → Option Values
by_subtable gpos None glyph = None
by_subtable gpos (Some subtable) glyph = values_covered gpos subtable (coverage_index gpos (subtable + word gpos (subtable + 2)) glyph)

-- the adjustment by the first subtable of a lookup that applies to the glyph
abbrev pub by_subtables : List ℕ → (lookup glyph : ℕ) → Option Values
by_subtables gpos lookup glyph = first_some (λ j. by_subtable gpos (typed_at gpos lookup 1 j) glyph) (word gpos (lookup + 4))

-- the adjustment of a glyph by the lookup at an offset
abbrev pub by_lookup : List ℕ → (lookup glyph : ℕ) → Option Values
by_lookup gpos lookup glyph = if type_at gpos lookup == 1 then by_subtables gpos lookup glyph else None

-- the adjustment of a glyph by lookup i
abbrev pub adjustment : List ℕ → (i glyph : ℕ) → Option Values
adjustment gpos i glyph = by_lookup gpos (lookup_at gpos i) glyph

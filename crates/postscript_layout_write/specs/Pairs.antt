-- The adjustments of pairs of glyphs by a lookup of the GPOS table (OpenType 1.9, "GPOS - Glyph Positioning Table", "Lookup type 2 subtable: pair
-- adjustment positioning" and "Lookup type 9 subtable: positioning subtable extension"; ISO/IEC 14496-22, 6.3.3).
use Rattle.std.specs.Prelude.{ℕ, ◌+◌, ◌*◌, ◌==◌, ◌&&◌, List, Option, None, Some, nat_lt, if◌then◌else◌}
use Rattle.postscript_layout.specs.Numbers.{word, long}
use Rattle.postscript_layout_write.specs.First.{first_some}
use Rattle.postscript_layout_write.specs.Ranges.{class_of, coverage_index}
use Rattle.postscript_layout_write.specs.Values.{adjustment_at, nothing, size_of}
use Rattle.postscript_layout_write.specs.declared.values.Adjustment.{Adjustment}

-- the value records of the first pair of a set with a second glyph; records have a size, with the second glyph
abbrev pub listed_pair : List ℕ → (set size second : ℕ) → Option ℕ
listed_pair gpos set size second =
    first_some (λ r. if word gpos (set + 2 + r * size) == second then Some (set + 2 + r * size + 2) else None) (word gpos set)

-- the value records for two classes, of an array with a row for each first class
abbrev pub class_pair : List ℕ → (subtable size row column : ℕ) → Option ℕ
class_pair gpos subtable size row column =
    if nat_lt row (word gpos (subtable + 12)) && nat_lt column (word gpos (subtable + 14))
    then Some (subtable + 16 + (row * word gpos (subtable + 14) + column) * size) else None

-- the size of both value records
abbrev pub sizes_of : List ℕ → (subtable : ℕ) → ℕ
sizes_of gpos subtable = size_of (word gpos (subtable + 4)) + size_of (word gpos (subtable + 6))

-- the value records of a pair whose first glyph has coverage index i: by its set (format 1), or by the classes of both glyphs (format 2)
abbrev pub record_of : List ℕ → (subtable i first second : ℕ) → Option ℕ
record_of gpos subtable i first second =
    if word gpos subtable == 1 then
    (if nat_lt i (word gpos (subtable + 8))
    then listed_pair gpos (subtable + word gpos (subtable + 10 + i * 2)) (2 + sizes_of gpos subtable) second else None)
    else (if word gpos subtable == 2 then
    class_pair gpos subtable (sizes_of gpos subtable)
    (class_of gpos (subtable + word gpos (subtable + 8)) first) (class_of gpos (subtable + word gpos (subtable + 10)) second)
    else None)

abbrev pub adjustment_by : List ℕ → (subtable : ℕ) → (records : Option ℕ) → Option Adjustment
adjustment_by gpos subtable None = None
adjustment_by gpos subtable (Some records) = Some (adjustment_at gpos records (word gpos (subtable + 4)) (word gpos (subtable + 6)))

abbrev pub adjustment_of : List ℕ → (subtable : ℕ) → (index : Option ℕ) → (first second : ℕ) → Option Adjustment
adjustment_of gpos subtable None first second = None
adjustment_of gpos subtable (Some i) first second = adjustment_by gpos subtable (record_of gpos subtable i first second)

-- the coverage index of a first glyph
abbrev pub index_of : List ℕ → (subtable first : ℕ) → Option ℕ
index_of gpos subtable first = coverage_index gpos (subtable + word gpos (subtable + 2)) first

-- the adjustment of a pair by a subtable, if the subtable applies to the pair
abbrev pub by_subtable : List ℕ → (subtable first second : ℕ) → Option Adjustment
by_subtable gpos subtable first second = adjustment_of gpos subtable (index_of gpos subtable first) first second

-- the offset of subtable j of a lookup, if it has pair adjustments; an extension is the subtable that it names
abbrev pub pairs_at : List ℕ → (lookup j : ℕ) → Option ℕ
pairs_at gpos lookup j =
    let part = lookup + word gpos (lookup + 6 + j * 2) in
    if word gpos lookup == 2 then Some part
    else (if word gpos lookup == 9 then (if word gpos (part + 2) == 2 then Some (part + long gpos (part + 4)) else None) else None)

-- the coverage index of a first glyph in such a subtable
abbrev pub index_at : List ℕ → (subtable : Option ℕ) → (first : ℕ) → Option ℕ
index_at gpos None first = None
index_at gpos (Some subtable) first = index_of gpos subtable first

abbrev pub by_part : List ℕ → (subtable : Option ℕ) → (first second : ℕ) → Option Adjustment
by_part gpos None first second = None
by_part gpos (Some subtable) first second = by_subtable gpos subtable first second

-- the adjustment of a pair by the first subtable of a lookup that applies
abbrev pub found_in : List ℕ → (lookup first second : ℕ) → Option Adjustment
found_in gpos lookup first second = first_some (λ j. by_part gpos (pairs_at gpos lookup j) first second) (word gpos (lookup + 4))

abbrev pub or_nothing : Option Adjustment → Adjustment
or_nothing None = nothing
or_nothing (Some adjustment) = adjustment

-- the adjustment of a pair by a lookup
abbrev pub by_lookup : List ℕ → (lookup first second : ℕ) → Adjustment
by_lookup gpos lookup first second = or_nothing (found_in gpos lookup first second)

-- the number of lookups, the offset of lookup i, and its flag
abbrev pub lookups_of : List ℕ → ℕ
lookups_of gpos = word gpos (word gpos 8)

abbrev pub lookup_at : List ℕ → (i : ℕ) → ℕ
lookup_at gpos i = word gpos 8 + word gpos (word gpos 8 + 2 + i * 2)

abbrev pub flag_of : List ℕ → (i : ℕ) → ℕ
flag_of gpos i = word gpos (lookup_at gpos i + 2)

-- the adjustment of a pair by lookup i
abbrev pub adjustment : List ℕ → (i first second : ℕ) → Adjustment
adjustment gpos i first second = by_lookup gpos (lookup_at gpos i) first second

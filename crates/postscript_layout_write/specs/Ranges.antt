-- Coverage tables and class definition tables (OpenType 1.9, "OpenType Layout Common Table Formats"; ISO/IEC 14496-22, 6.2). In a table whose
-- glyphs are not in order, the first entry counts.
use Rattle.std.specs.Prelude.{ℕ, Bool, ◌+◌, ◌-◌, ◌*◌, ◌==◌, ◌&&◌, List, Option, None, Some, nat_lt, nat_le, if◌then◌else◌}
use Rattle.postscript_layout.specs.Numbers.{word}
use Rattle.postscript_layout_write.specs.First.{first_some}

-- a range of six bytes: its first glyph, its last glyph and a number
abbrev pub in_range : List ℕ → (range glyph : ℕ) → Bool
in_range table range glyph = nat_le (word table range) glyph && nat_le glyph (word table (range + 2))

-- the offset of the first range that has a glyph; the number of ranges is at offset 2 of a table, and the ranges follow
abbrev pub range_of : List ℕ → (ranges glyph : ℕ) → Option ℕ
range_of table ranges glyph =
    first_some (λ r. if in_range table (ranges + 4 + r * 6) glyph then Some (ranges + 4 + r * 6) else None) (word table (ranges + 2))

-- the coverage index of a glyph of a range: the number of the range is the index of its first glyph
abbrev pub index_in : List ℕ → (glyph : ℕ) → Option ℕ → Option ℕ
index_in table glyph None = None
index_in table glyph (Some range) = Some (word table (range + 4) + (glyph - word table range))

-- the coverage index of a glyph: its index in a list (format 1), or by the range that has it (format 2)
abbrev pub coverage_index : List ℕ → (coverage glyph : ℕ) → Option ℕ
coverage_index table coverage glyph =
    if word table coverage == 1 then first_some (λ i. if word table (coverage + 4 + i * 2) == glyph then Some i else None) (word table (coverage + 2))
    else (if word table coverage == 2 then index_in table glyph (range_of table coverage glyph) else None)

-- the class in a list of classes of glyphs from a first one on (format 1)
abbrev pub listed_class : List ℕ → (classes glyph : ℕ) → ℕ
listed_class table classes glyph =
    let first = word table (classes + 2) in
    if nat_le first glyph && nat_lt glyph (first + word table (classes + 4)) then word table (classes + 6 + (glyph - first) * 2) else 0

-- the number of a range is the class of its glyphs
abbrev pub class_in : List ℕ → Option ℕ → ℕ
class_in table None = 0
class_in table (Some range) = word table (range + 4)

-- the class of a glyph; glyphs without a class are in class 0
abbrev pub class_of : List ℕ → (classes glyph : ℕ) → ℕ
class_of table classes glyph =
    if word table classes == 1 then listed_class table classes glyph
    else (if word table classes == 2 then class_in table (range_of table classes glyph) else 0)

-- The pairs of a `kern` table (OpenType 1.9, "kern - Kerning", "Kerning subtables" and "Format 0").
use Rattle.std.specs.Prelude.{◌≡◌, ℕ, zero, suc, ◌+◌, ◌-◌, ◌*◌, ◌/◌, ◌≤◌, ◌==◌, ◌&&◌, List, Option, None, Some, length, min, if◌then◌else◌}
use Rattle.postscript_kern.specs.First.{first_some}
use Rattle.postscript_kern.specs.Numbers.{word}

-- the number of subtables of a table of version 0; a table of another version has none
abbrev pub count_of : List ℕ → ℕ
count_of table = if word table 0 == 0 then word table 2 else 0

-- the offset of a subtable: each one begins `length` bytes after the one before it
abbrev pub subtable_at : List ℕ → (i : ℕ) → ℕ
subtable_at table zero = 4
subtable_at table (suc i) = subtable_at table i + word table (subtable_at table i + 2)

-- the coverage of a subtable, with its format in the upper byte
abbrev pub coverage_of : List ℕ → (at : ℕ) → ℕ
coverage_of table at = word table (at + 4)

-- a subtable has pairs: its header is in the table, and it has format 0
pub record HasPairs (table : List ℕ) (at : ℕ) : Type 0 where
  pub within : at + 14 ≤ length table
  pub format : coverage_of table at / 256 ≡ 0

-- The number of pairs: `nPairs`, or as many records as the table has after the header. A truncated record is no pair. The length of the
-- subtable does not count, since it overflows if there are many pairs.
abbrev pub pairs_in : List ℕ → (at : ℕ) → ℕ
pairs_in table at = min (word table (at + 6)) ((length table - (at + 14)) / 6)

-- record k of a subtable: the left glyph, the right glyph, and the value; a negative value n is n + 65536
abbrev pub left_of : List ℕ → (at k : ℕ) → ℕ
left_of table at k = word table (at + 14 + k * 6)

abbrev pub right_of : List ℕ → (at k : ℕ) → ℕ
right_of table at k = word table (at + 14 + k * 6 + 2)

abbrev pub value_at : List ℕ → (at k : ℕ) → ℕ
value_at table at k = word table (at + 14 + k * 6 + 4)

-- the value of a pair by record k
abbrev pub value_by : List ℕ → (at left right k : ℕ) → Option ℕ
value_by table at left right k = if (left_of table at k == left) && (right_of table at k == right) then Some (value_at table at k) else None

-- the value of a pair by a subtable: that of its first record
abbrev pub value_of : List ℕ → (at left right : ℕ) → Option ℕ
value_of table at left right = first_some (value_by table at left right) (pairs_in table at)

-- How many units a table costs at most.
use Rattle.std.specs.Prelude.{ℕ, zero, suc, ◌+◌, List}
use Rattle.postscript_sequences.specs.Tables.{default_at, mappings_of, other_at, ranges_of, records_of}

-- The units of record `i`: one for the record, and one for each character, range and mapping.
abbrev pub record_units : (table : List ℕ) → (chars i : ℕ) → ℕ
record_units table chars i = 1 + chars + ranges_of table (default_at table i) + mappings_of table (other_at table i)

-- the units of the first records
unfoldable pub units_to : (table : List ℕ) → (chars records : ℕ) → ℕ
units_to table chars zero = 0
units_to table chars (suc i) = units_to table chars i + record_units table chars i

-- the units of all records, for this number of characters
abbrev pub units_of : (table : List ℕ) → (chars : ℕ) → ℕ
units_of table chars = units_to table chars (records_of table)

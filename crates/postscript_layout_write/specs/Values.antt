-- Value records (OpenType 1.9, "GPOS - Glyph Positioning Table", "Value record"; ISO/IEC 14496-22, 6.3.3). Offsets of device tables and of
-- variation indexes are left out: the adjustment is that of the default instance at sizes without device corrections.
use Rattle.std.specs.Prelude.{ℕ, zero, suc, Bool, ◌+◌, ◌*◌, ◌/◌, ◌%◌, ◌^◌, ◌==◌, List, None, Some, if◌then◌else◌}
use Rattle.postscript_layout.specs.Numbers.{word}
use Rattle.postscript_layout_write.specs.declared.values.Values.{Values}
use Rattle.postscript_layout_write.specs.declared.values.Adjustment.{Adjustment}

-- bit k of a format says whether a record has value k
abbrev pub has_value : (format k : ℕ) → Bool
has_value format k = format / 2 ^ k % 2 == 1

-- the number of values of a record that are before value k
unfoldable pub values_below : (format k : ℕ) → ℕ
values_below format zero = 0
values_below format (suc k) = values_below format k + format / 2 ^ k % 2

-- the size of a record in bytes
abbrev pub size_of : (format : ℕ) → ℕ
size_of format = values_below format 16 * 2

-- a value of a record, or 0
abbrev pub value : List ℕ → (record_at format k : ℕ) → ℕ
value table record_at format k = if has_value format k then word table (record_at + values_below format k * 2) else 0

-- the adjustment of a glyph
abbrev pub values_at : List ℕ → (record_at format : ℕ) → Values
values_at table record_at format = record {
  x_placement = value table record_at format 0;
  y_placement = value table record_at format 1;
  x_advance = value table record_at format 2;
  y_advance = value table record_at format 3;
}

-- the adjustment of a pair by its two records; without a second format, there is no adjustment of the second glyph
abbrev pub adjustment_at : List ℕ → (record_at format1 format2 : ℕ) → Adjustment
adjustment_at table record_at format1 format2 = record {
  first = values_at table record_at format1;
  second = (if format2 == 0 then None else Some (values_at table (record_at + size_of format1) format2));
}

abbrev pub zero_values : Values
zero_values = record { x_placement = 0; y_placement = 0; x_advance = 0; y_advance = 0 }

-- the adjustment that changes nothing
abbrev pub nothing : Adjustment
nothing = record { first = zero_values; second = None }

-- Tables as they are written. Only contracts of private functions and proofs name this.
use Rattle.std.specs.Prelude.{◌≡◌, ℕ, ◌+◌, ◌*◌, ◌<◌, ◌≤◌, List, [], ◌∷◌, ◌++◌, Option, None, Some, length, map, slice_range}
use Rattle.std.specs.Int.{to_be_bytes, w16}
use Rattle.std.specs.List.{All, Contains}
use Rattle.postscript_layout_write.specs.Entries.{form_of}
use Rattle.postscript_layout_write.specs.Values.{zero_values}
use Rattle.postscript_layout_write.specs.declared.entries.Entry.{Entry}
use Rattle.postscript_layout_write.specs.declared.entries.Form.{Form}
use Rattle.postscript_layout_write.specs.declared.entries.Form.TheVariants.{Advance, First, Both}
use Rattle.postscript_layout_write.specs.declared.values.Adjustment.{Adjustment}
use Rattle.postscript_layout_write.specs.declared.values.Values.{Values}

-- a number of two bytes (ISO/IEC 14496-22, 4.3, "Data types"): the high byte first
unfoldable pub uint16 : ℕ → List ℕ
uint16 n = to_be_bytes w16 n

-- an array of numbers of two bytes
unfoldable pub array_text : List ℕ → List ℕ
array_text [] = []
array_text (n ∷ ns) = uint16 n ++ array_text ns

abbrev pub offsets_text : (base : ℕ) → List ℕ → List ℕ
offsets_text base offsets = array_text (map (λ offset. base + offset) offsets)

unfoldable pub values_text : Values → List ℕ
values_text values = uint16 values.x_placement ++ (uint16 values.y_placement ++ (uint16 values.x_advance ++ uint16 values.y_advance))

abbrev pub or_zero : Option Values → Values
or_zero None = zero_values
or_zero (Some values) = values

unfoldable pub adjustment_text : Form → Adjustment → List ℕ
adjustment_text Advance adjustment = uint16 adjustment.first.x_advance
adjustment_text First adjustment = values_text adjustment.first
adjustment_text Both adjustment = values_text adjustment.first ++ values_text (or_zero adjustment.second)

unfoldable pub entry_text : Form → Entry → List ℕ
entry_text form entry = uint16 entry.second ++ adjustment_text form entry.adjustment

unfoldable pub entries_text : Form → List Entry → List ℕ
entries_text form [] = []
entries_text form (entry ∷ entries) = entry_text form entry ++ entries_text form entries

unfoldable pub set_text : Form → List Entry → List ℕ
set_text form entries = uint16 (length entries) ++ entries_text form entries

-- the two value formats of a form
abbrev pub format1 : Form → ℕ
format1 Advance = 4
format1 First = 15
format1 Both = 15

abbrev pub format2 : Form → ℕ
format2 Advance = 0
format2 First = 0
format2 Both = 15

unfoldable pub formats_text : Form → List ℕ
formats_text form = uint16 (format1 form) ++ uint16 (format2 form)

-- the header of a subtable of format 1 with a number of sets; the coverage table follows the offsets of the sets
unfoldable pub head_text : Form → (count : ℕ) → List ℕ
head_text form count = uint16 1 ++ (uint16 (10 + count * 2) ++ (formats_text form ++ uint16 count))

-- a coverage table with a list of glyphs
unfoldable pub coverage_text : List ℕ → List ℕ
coverage_text glyphs = uint16 1 ++ (uint16 (length glyphs) ++ array_text glyphs)

-- a subtable of format 1
unfoldable pub subtable_text : Form → (firsts offsets sets : List ℕ) → List ℕ
subtable_text form firsts offsets sets =
    head_text form (length firsts) ++ (offsets_text (14 + length firsts * 4) offsets ++ (coverage_text firsts ++ sets))

-- numbers of two bytes
pub record ValuesFit (values : Values) : Type 0 where
  pub x_placement : values.x_placement < 65536
  pub y_placement : values.y_placement < 65536
  pub x_advance : values.x_advance < 65536
  pub y_advance : values.y_advance < 65536

abbrev pub AdjustmentFits : Form → Adjustment → Type 0
AdjustmentFits Advance adjustment = adjustment.first.x_advance < 65536
AdjustmentFits First adjustment = ValuesFit adjustment.first
AdjustmentFits Both adjustment = ValuesFit adjustment.first × ValuesFit (or_zero adjustment.second)

pub record EntryFits (form : Form) (entry : Entry) : Type 0 where
  pub glyph : entry.second < 65536
  pub adjustment : AdjustmentFits form entry.adjustment

-- the entry with no adjustment
abbrev pub no_entry : Entry
no_entry = record { second = 0; adjustment = record { first = zero_values; second = None } }

-- the entries of a form
pub record AreOfForm (form : Form) (entries found : List Entry) : Type 0 where
  pub right : All (λ e. (form_of e.adjustment ≡ Some form) × Contains entries e) found
  pub all : (e : Entry) → Contains entries e → form_of e.adjustment ≡ Some form → Contains found e
  pub few : length found ≤ length entries

-- a lookup list
unfoldable pub list_text : (offsets lookups : List ℕ) → List ℕ
list_text offsets lookups = uint16 (length offsets) ++ (offsets_text (2 + length offsets * 2) offsets ++ lookups)

-- the header, and the script list and the feature list of the old table
unfoldable pub front_text : (gpos : List ℕ) → (end : ℕ) → List ℕ
front_text gpos end = uint16 1 ++ (uint16 0 ++ (slice_range gpos 4 8 ++ (uint16 end ++ slice_range gpos 10 end)))

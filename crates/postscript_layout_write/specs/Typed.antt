-- Lookups that are written with a subtable for each old one. Only contracts of private functions and proofs name this.
use Rattle.std.specs.Prelude.{◌≡◌, ℕ, ◌+◌, ◌*◌, ◌<◌, ◌≤◌, List, ◌++◌, Option, length, slice_index}
use Rattle.postscript_layout.specs.Numbers.{word}
use Rattle.postscript_layout_write.specs.Attaching.{HasAttaching, IsArray, lead_of, numbers_of}
use Rattle.postscript_layout_write.specs.Flags.{set_of}
use Rattle.postscript_layout_write.specs.Holds.{Holds}
use Rattle.postscript_layout_write.specs.Marks.{of_format1, type_at, typed_at}
use Rattle.postscript_layout_write.specs.RuleSets.{rule_head_text}
use Rattle.postscript_layout_write.specs.Scopes.{mark_set_text}
use Rattle.postscript_layout_write.specs.Sets.{AreOffsets}
use Rattle.postscript_layout_write.specs.Text.{array_text, coverage_text, offsets_text}
use Rattle.postscript_layout_write.specs.declared.anchors.Side.{Side}
use Rattle.postscript_layout_write.specs.declared.anchors.Side.TheVariants.{Cursive, Singles}

-- a subtable with one array, which has a row for each glyph; the coverage table follows the array
unfoldable pub rows_text : (side : Side) → (glyphs array : List ℕ) → List ℕ
rows_text side glyphs array = array_text (numbers_of side (lead_of side + length array)) ++ (array ++ coverage_text glyphs)

-- a subtable is appended
pub record PutsRows (side : Side) (glyphs array old new : List ℕ) : Type 0 where
  pub few : length glyphs ≤ 16380
  pub fit : lead_of side + length array < 65536
  pub text : new ≡ old ++ rows_text side glyphs array

-- a subtable at an offset has the rows of the kept glyphs
pub record HasRows (side : Side) (gpos : List ℕ) (subtable : Option ℕ) (kept bytes : List ℕ) (offset : ℕ) : Type 0 where
  pub glyphs : List ℕ
  pub array : List ℕ
  pub small : length kept < 65536
  pub is : IsArray side gpos subtable kept glyphs array
  pub few : length glyphs ≤ 16380
  pub fit : lead_of side + length array < 65536
  pub there : Holds (rows_text side glyphs array) bytes offset

pub record AddsRows (side : Side) (gpos : List ℕ) (subtable : Option ℕ) (kept old new : List ℕ) : Type 0 where
  pub more : List ℕ
  pub bytes : new ≡ old ++ more
  pub has : HasRows side gpos subtable kept new (length old)

-- a subtable at an offset has the adjustments, the ends or the marks of the kept glyphs, by its type
pub data HasPart (type : ℕ) (gpos : List ℕ) (part : Option ℕ) (kept bytes : List ℕ) (offset : ℕ) : Type 0 where
  has_singles : type ≡ 1 → HasRows Singles gpos part kept bytes offset → HasPart type gpos part kept bytes offset
  has_ends : type ≡ 3 → HasRows Cursive gpos (of_format1 gpos part) kept bytes offset → HasPart type gpos part kept bytes offset
  has_marks : (type ≡ 1 → ⊥) → (type ≡ 3 → ⊥) → HasAttaching type gpos (of_format1 gpos part) kept bytes offset → HasPart type gpos part kept bytes offset

pub record AddsPart (type : ℕ) (gpos : List ℕ) (part : Option ℕ) (kept old new : List ℕ) : Type 0 where
  pub more : List ℕ
  pub bytes : new ≡ old ++ more
  pub has : HasPart type gpos part kept new (length old)

-- the first subtables of a lookup are there, after its set of marks
pub record HasParts (gpos : List ℕ) (lookup type flag : ℕ) (kept : List ℕ) (count : ℕ) (offsets bytes : List ℕ) : Type 0 where
  pub many : length offsets ≡ count
  pub each : (j : ℕ) → j < count → HasPart type gpos (typed_at gpos lookup type j) kept bytes (slice_index offsets j)
  pub set : Holds (mark_set_text flag (set_of gpos lookup)) bytes 0
  pub set_small : set_of gpos lookup < 65536

-- a lookup with subtables
unfoldable pub parts_text : (type flag : ℕ) → (offsets subtables : List ℕ) → List ℕ
parts_text type flag offsets subtables =
    rule_head_text type flag (length offsets) ++ (offsets_text (6 + length offsets * 2) offsets ++ subtables)

-- a lookup at an offset has the type of an old one, a flag, and a subtable for each old one
pub record HasTyped (gpos kept : List ℕ) (lookup flag : ℕ) (bytes : List ℕ) (offset : ℕ) : Type 0 where
  pub offsets : List ℕ
  pub subtables : List ℕ
  pub parts : HasParts gpos lookup (type_at gpos lookup) flag kept (word gpos (lookup + 4)) offsets subtables
  pub few : length offsets ≤ 32000
  pub fit : AreOffsets (6 + length offsets * 2) offsets
  pub type : type_at gpos lookup < 65536
  pub small : flag < 65536
  pub there : Holds (parts_text (type_at gpos lookup) flag offsets subtables) bytes offset

pub record AddsTyped (gpos kept : List ℕ) (lookup flag : ℕ) (old new : List ℕ) : Type 0 where
  pub more : List ℕ
  pub bytes : new ≡ old ++ more
  pub has : HasTyped gpos kept lookup flag new (length old)

-- Records of vertical origins as they are written. Only private contracts and proofs use these definitions.
use Rattle.std.specs.Prelude.{◌≡◌, ℕ, ◌+◌, ◌*◌, ◌/◌, ◌<◌, ◌≤◌, List, length, slice_index}
use Rattle.postscript_vertical.specs.Numbers.{word}
use Rattle.postscript_vertical.specs.Origins.{HasRecord, default_of, records_in}

-- the glyph and the y coordinate of record k, with no header before the records
abbrev pub glyph_in : (records : List ℕ) → (k : ℕ) → ℕ
glyph_in records k = word records (k * 4)

abbrev pub y_in : (records : List ℕ) → (k : ℕ) → ℕ
y_in records k = word records (k * 4 + 2)

-- record k is that of the origin of its glyph
pub record IsOfOrigin (vorg origins : List ℕ) (glyphs : ℕ) (records : List ℕ) (k : ℕ) : Type 0 where
  pub small : glyph_in records k < glyphs
  pub has : HasRecord vorg (slice_index origins (glyph_in records k)) (y_in records k)

-- a glyph has a record with this y coordinate
pub record IsIn (records : List ℕ) (count glyph y : ℕ) : Type 0 where
  pub k : ℕ
  pub within : k < count
  pub is_glyph : glyph_in records k ≡ glyph
  pub is_y : y_in records k ≡ y

-- these are the records of the first glyphs
pub record AreListed (vorg origins : List ℕ) (glyphs : ℕ) (records : List ℕ) : Type 0 where
  pub count : ℕ
  pub size : length records ≡ count * 4
  pub few : count ≤ glyphs
  pub only : (k : ℕ) → k < count → IsOfOrigin vorg origins glyphs records k
  pub all : (i y : ℕ) → i < glyphs → HasRecord vorg (slice_index origins i) y → IsIn records count i y
  pub ascending : (j k : ℕ) → j < k → k < count → glyph_in records j < glyph_in records k

-- a table of version 1.0 with these records
pub record IsTable (default : ℕ) (records new : List ℕ) : Type 0 where
  pub size : length new ≡ 8 + length records
  pub major : word new 0 ≡ 1
  pub minor : word new 2 ≡ 0
  pub is_default : default_of new ≡ default
  pub number : records_in new ≡ length records / 4
  pub same : (offset : ℕ) → word new (8 + offset) ≡ word records offset

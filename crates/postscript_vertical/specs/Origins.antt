-- Vertical origins (OpenType 1.9, "VORG - Vertical Origin Table").
use Rattle.std.specs.Prelude.{◌≡◌, ◌⊎◌, ◌↔◌, ℕ, ◌+◌, ◌*◌, ◌<◌, ◌≤◌, List, length, slice_index}
use Rattle.postscript_vertical.specs.Numbers.{word}

-- the y coordinate of the vertical origin of glyphs without a record; a negative one n is n + 65536
abbrev pub default_of : (vorg : List ℕ) → ℕ
default_of vorg = word vorg 4

-- record k has a glyph and the y coordinate of its vertical origin
abbrev pub records_in : (vorg : List ℕ) → ℕ
records_in vorg = word vorg 6

abbrev pub glyph_at : (vorg : List ℕ) → (k : ℕ) → ℕ
glyph_at vorg k = word vorg (8 + k * 4)

abbrev pub y_at : (vorg : List ℕ) → (k : ℕ) → ℕ
y_at vorg k = word vorg (8 + k * 4 + 2)

-- the glyphs of the records are in strictly ascending order
abbrev pub AreAscending : (vorg : List ℕ) → (count : ℕ) → Type 0
AreAscending vorg count = (j k : ℕ) → j < k → k < count → glyph_at vorg j < glyph_at vorg k

-- The table can be read: it has version 1, and all its records, which are in order.
pub record HasOrigins (vorg : List ℕ) : Type 0 where
  pub header : 8 ≤ length vorg
  pub version : word vorg 0 ≡ 1
  pub room : 8 + records_in vorg * 4 ≤ length vorg
  pub ascending : AreAscending vorg (records_in vorg)

-- the glyph has a record with this y coordinate
pub record HasRecord (vorg : List ℕ) (glyph y : ℕ) : Type 0 where
  pub k : ℕ
  pub within : k < records_in vorg
  pub is_glyph : glyph_at vorg k ≡ glyph
  pub is_y : y_at vorg k ≡ y

abbrev pub HasNoRecord : (vorg : List ℕ) → (glyph : ℕ) → Type 0
HasNoRecord vorg glyph = (y : ℕ) → HasRecord vorg glyph y → ⊥

-- The vertical origin of the glyph has this y coordinate: that of its record, or the default one if it has none.
abbrev pub IsOrigin : (vorg : List ℕ) → (glyph y : ℕ) → Type 0
IsOrigin vorg glyph y = HasRecord vorg glyph y ⊎ (HasNoRecord vorg glyph × (y ≡ default_of vorg))

-- The new table has version 1.0, the old default, and exactly the records of the origins that have one, under the new numbers.
pub record KeepsOrigins (old origins new : List ℕ) : Type 0 where
  pub old_read : HasOrigins old
  pub new_read : HasOrigins new
  pub minor : word new 2 ≡ 0
  pub size : length new ≡ 8 + records_in new * 4
  pub default : default_of new ≡ default_of old
  pub records : (i y : ℕ) → HasRecord new i y ↔ ((i < length origins) × HasRecord old (slice_index origins i) y)

-- The glyphs of a font (Technical Note 5176, section 18, "CID-keyed Fonts").
use Rattle.std.specs.Prelude.{◌≡◌, ◌≢◌, ◌⊎◌, ℕ, ◌<◌, List, Some, slice_get, length}
use Rattle.postscript_base.specs.Index.Lent.{items_of}
use Rattle.postscript_view.specs.Select.{IsSelected}
use Rattle.postscript_view.specs.declared.font.FontView.{FontView}
use Rattle.postscript_view.specs.declared.private_dict.PrivateDict.{PrivateDict}

-- If there are several parts, a glyph has the part of the Font DICT that FDSelect gives it. A single part is the part of all glyphs.
abbrev pub IsPartNumber : FontView → (glyph part : ℕ) → Type 0
IsPartNumber font glyph part =
    ((length font.parts.items ≡ 1) × (part ≡ 0))
    ⊎ ((length font.parts.items ≢ 1) × IsSelected font.bytes.now font.dictionary (length (items_of font.char_strings)) glyph part)

-- there is such a glyph, and such a part
pub record HasPartNumber (font : FontView) (glyph part : ℕ) : Type 0 where
  pub glyph_there : glyph < length (items_of font.char_strings)
  pub part_there : part < length font.parts.items
  pub selected : IsPartNumber font glyph part

-- A glyph has this code and this part.
pub record HasGlyph (font : FontView) (glyph : ℕ) (code : List ℕ) (part : PrivateDict) : Type 0 where
  pub number : ℕ
  pub has_number : HasPartNumber font glyph number
  pub has_part : slice_get font.parts.items number ≡ Some part
  pub has_code : slice_get (items_of font.char_strings) glyph ≡ Some code

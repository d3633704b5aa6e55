-- The part of a glyph by its Font DICT in a CID-keyed font (Technical Note 5176, sections 18 and 19).
use Rattle.std.specs.Prelude.{◌≡◌, ◌≢◌, ◌⊎◌, ℕ, ◌<◌, List, length, slice_get, Option, Some, None, Result, Ok, Err}
use Rattle.postscript_base.specs.Compact1.Dictionary.{Dictionary}
use Rattle.postscript_base.specs.Tape.Outcome.{Reading, Got, RefusedAs, ◌>>=◌}
use Rattle.postscript_base.specs.declared.error.Error.{Error}
use Rattle.postscript_base.specs.declared.error.Error.TheVariants.{Memory}
use Rattle.postscript_c.specs.Glyphs.{index_at}
use Rattle.postscript_c.specs.Places.{part}
use Rattle.postscript_c.specs.Widths.{AreWidths}
use Rattle.postscript_c.specs.declared.font.PsfFont.{PsfFont}
use Rattle.postscript_c.specs.declared.part.PsfPart.{PsfPart}
use Rattle.postscript_compact1.specs.Kinds.{map_of}
use Rattle.postscript_view.specs.Select.{Selects}

-- The number of a glyph's Font DICT. If there is one Font DICT, all glyphs have it. Otherwise FDSelect gives the number, and there is an
-- FDSelect.
abbrev pub HasNumber : List ℕ → PsfFont → (dictionaries glyph fd : ℕ) → Type 0
HasNumber bytes font dictionaries glyph fd = ((dictionaries ≡ 1) × (fd ≡ 0))
    ⊎ ((dictionaries ≢ 1) × (font.fd_select ≢ 0) × Selects bytes font.fd_select font.glyphs glyph fd)

-- there is such a glyph, and its Font DICT is this item of FDArray
pub record HasItem (bytes : List ℕ) (font : PsfFont) (items : List (List ℕ)) (glyph : ℕ) (item : List ℕ) : Type 0 where
  pub fd : ℕ
  pub there : glyph < font.glyphs
  pub numbered : HasNumber bytes font (length items) glyph fd
  pub listed : slice_get items fd ≡ Some item

-- FDArray is well formed, and the glyph has this item of it
abbrev pub HasDictionary : List ℕ → PsfFont → (glyph : ℕ) → (item : List ℕ) → Type 0
HasDictionary bytes font glyph item = (items : List (List ℕ)) × (index_at font.font_dictionaries bytes 0 ≡ Got items 0)
    × HasItem bytes font items glyph item

-- FDArray is well formed, and the glyph has no item of it
abbrev pub LacksDictionary : List ℕ → PsfFont → (glyph : ℕ) → Type 0
LacksDictionary bytes font glyph = (items : List (List ℕ)) × (index_at font.font_dictionaries bytes 0 ≡ Got items 0)
    × ((item : List ℕ) → HasItem bytes font items glyph item → ⊥)

-- the offset of the local subroutines for the Font DICT in an item
unfoldable pub item_part : List ℕ → Reading ℕ
item_part item = map_of item >>= part

-- the offset of the local subroutines, and the widths, for the Font DICT in an item
pub record IsPartOf (bytes item : List ℕ) (found : PsfPart) : Type 0 where
  pub map : Dictionary
  pub spelled : map_of item bytes 0 ≡ Got map 0
  pub subroutines : part map bytes 0 ≡ Got found.local_subroutines 0
  pub widths : AreWidths bytes map found.default_width found.nominal_width

-- the same for the Font DICT of a glyph
abbrev pub HasCidPart : List ℕ → PsfFont → (glyph : ℕ) → PsfPart → Type 0
HasCidPart bytes font glyph found = (item : List ℕ) × HasDictionary bytes font glyph item × IsPartOf bytes item found

-- Why a glyph has no part: FDArray is malformed, or the glyph's Font DICT or its Private DICT is.
abbrev pub NoPart : Error → List ℕ → PsfFont → (glyph : ℕ) → Type 0
NoPart e bytes font glyph = RefusedAs e (index_at font.font_dictionaries bytes 0)
    ⊎ ((item : List ℕ) × HasDictionary bytes font glyph item × RefusedAs e (item_part item bytes 0))

-- The result for a glyph: its part, or that it has no Font DICT, or why its part is rejected, unless memory runs out.
abbrev pub IsCidPart : List ℕ → PsfFont → (glyph : ℕ) → Result (Option PsfPart) Error → Type 0
IsCidPart bytes font glyph (Ok (Some found)) = HasCidPart bytes font glyph found
IsCidPart bytes font glyph (Ok None) = LacksDictionary bytes font glyph
IsCidPart bytes font glyph (Err e) = e ≢ Memory → NoPart e bytes font glyph

-- The Font DICTs of glyphs (Technical Note 5176, sections 18 and 19; OpenType 1.9, "CFF2", "FDSelect").
use Rattle.std.specs.Prelude.{◌≡◌, ◌≢◌, ◌⊎◌, ℕ, ◌<◌, List, length}
use Rattle.postscript_cff2.specs.Parts.{HasNumber}
use Rattle.postscript_cff2.specs.Shown.{view_shown}
use Rattle.postscript_cff2.specs.declared.font.Font.{Font}
use Rattle.postscript_view.specs.Contents.{View}
use Rattle.postscript_view.specs.Select.{IsSelected}

-- FDSelect of a table gives a glyph the Font DICT with this number. If there is only one Private DICT, all glyphs have number 0.
pub record HasDictionary (bytes : List ℕ) (view : View) (glyph number : ℕ) : Type 0 where
  pub there : number < length view.parts
  pub selected : ((length view.parts ≡ 1) × (number ≡ 0))
      ⊎ ((length view.parts ≢ 1) × IsSelected bytes view.tables.dictionary (length view.char_strings) glyph number)

-- A glyph has the Font DICT with the same number in a font and in the table that is made from it.
abbrev pub KeepsDictionary : Font → (bytes : List ℕ) → View → (glyph : ℕ) → Type 0
KeepsDictionary font bytes view glyph =
    (number : ℕ) × HasNumber font.bytes.now (view_shown font) glyph number × HasDictionary bytes view glyph number

-- the same for each of the first `count` glyphs
abbrev pub KeepDictionaries : Font → (bytes : List ℕ) → View → (count : ℕ) → Type 0
KeepDictionaries font bytes view count = (glyph : ℕ) → glyph < count → KeepsDictionary font bytes view glyph

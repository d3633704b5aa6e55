-- Names of glyphs (Technical Note 5176, section 10, "String INDEX", section 13, "Charsets", section 18, "CID-keyed Fonts", and
-- Appendix A).
use Rattle.std.specs.Prelude.{◌≡◌, ℕ, ◌-◌, ◌<◌, List, length, Option, Some, nat_lt, slice_get, if◌then◌else◌}
use Rattle.postscript_compact1.specs.StandardStrings.{standard_string}
use Rattle.postscript_view.specs.Cids.{IsCidKeyed}
use Rattle.postscript_view.specs.Naming.{Names}
use Rattle.postscript_view.specs.Contents.{View}
use Rattle.postscript_view.specs.declared.char_set.CharSetView.{CharSetView}

-- the string of a SID: below 391 a standard string, and otherwise an item of the String INDEX
unfoldable pub string_of : List (List ℕ) → (identifier : ℕ) → Option (List ℕ)
string_of strings identifier = if nat_lt identifier 391 then standard_string identifier else slice_get strings (identifier - 391)

-- the string of the SID that a charset gives a glyph
abbrev pub HasString : CharSetView → List (List ℕ) → (glyph : ℕ) → (string : List ℕ) → Type 0
HasString set strings glyph string = (identifier : ℕ) × Names set glyph identifier × (string_of strings identifier ≡ Some string)

-- A glyph of a font has this string as its name. The charset of a CID-keyed font has CIDs, so its glyphs have no names.
pub record HasName (font : View) (set : CharSetView) (glyph : ℕ) (name : List ℕ) : Type 0 where
  pub not_keyed : IsCidKeyed font.tables.dictionary → ⊥
  pub there : glyph < length font.char_strings
  pub string : HasString set font.tables.strings glyph name

-- the first glyph that has a name
pub record IsFirstWithName (font : View) (set : CharSetView) (name : List ℕ) (glyph : ℕ) : Type 0 where
  pub has : HasName font set glyph name
  pub none_before : (other : ℕ) → other < glyph → HasName font set other name → ⊥

-- The components of `seac` glyphs (Technical Note 5177, Appendix C; Technical Note 5176, Appendix B, "Standard Encoding", and section 13,
-- "Charsets").
use Rattle.std.specs.Prelude.{◌≡◌, ℕ, ◌<◌, length}
use Rattle.postscript_compact1.specs.Computed.Encodings.{in_runs, runs_of}
use Rattle.postscript_compact1.specs.declared.encoding.Encoding.TheVariants.{Standard}
use Rattle.postscript_base.specs.Index.Lent.{items_of}
use Rattle.postscript_base.specs.declared.error.Error.{Error as Cause}
use Rattle.postscript_view.specs.CharSets.{IsCharSetOf}
use Rattle.postscript_view.specs.Cids.{IsCidKeyed}
use Rattle.postscript_view.specs.Naming.{Names, IsFirstNamed}
use Rattle.postscript_view.specs.Untold.{NoCharSet}
use Rattle.postscript_view.specs.declared.char_set.CharSetView.{CharSetView}
use Rattle.postscript_view.specs.declared.font.FontView.{FontView}
use Rattle.postscript_drawing.specs.declared.error.Error.{Error}
use Rattle.postscript_drawing.specs.declared.error.Error.TheVariants.{Font, Full, TooLong, NoSuchGlyph, NoCode, NoAccents, MissingComponent, NestedAccent}

-- the SID in the standard encoding for a code of one byte, which is 0, for .notdef, if the encoding does not have the code
abbrev pub standard_identifier : (code : ℕ) → ℕ
standard_identifier code = in_runs (runs_of Standard) code

-- the number of glyphs of a font
abbrev pub glyphs_of : FontView → ℕ
glyphs_of font = length (items_of font.char_strings)

-- the charset of a font
abbrev pub HasCharSet : FontView → CharSetView → Type 0
HasCharSet font set = IsCharSetOf set font.bytes.now font.dictionary (glyphs_of font)

-- The glyph for a code: the first one with the name that the standard encoding has for the code. The glyphs of a CID-keyed font have no
-- names.
pub record IsComponent (font : FontView) (code glyph : ℕ) : Type 0 where
  pub not_keyed : IsCidKeyed font.dictionary → ⊥
  pub set : CharSetView
  pub is_set : HasCharSet font set
  pub first : IsFirstNamed set (standard_identifier code) (glyphs_of font) glyph

-- no glyph has the name for the code
pub record IsMissing (font : FontView) (code : ℕ) : Type 0 where
  pub set : CharSetView
  pub is_set : HasCharSet font set
  pub none : (glyph : ℕ) → glyph < glyphs_of font → Names set glyph (standard_identifier code) → ⊥

-- The font has no charset, for this reason.
pub record HasNoCharSet (e : Cause) (font : FontView) : Type 0 where
  pub none : (set : CharSetView) → HasCharSet font set → ⊥
  pub why : NoCharSet e font.bytes.now font.dictionary (glyphs_of font)

-- why there is no glyph for the code
abbrev pub HasNoComponent : Error → FontView → (code : ℕ) → Type 0
HasNoComponent NoAccents font code = IsCidKeyed font.dictionary
HasNoComponent (MissingComponent missing) font code = (missing ≡ code) × IsMissing font code
HasNoComponent (Font e) font code = HasNoCharSet e font
HasNoComponent Full font code = ⊥
HasNoComponent TooLong font code = ⊥
HasNoComponent NoCode font code = ⊥
HasNoComponent (NoSuchGlyph glyph) font code = ⊥
HasNoComponent (NestedAccent nested) font code = ⊥

-- A new glyph is the same as the old glyph that it is made of, apart from its drawing (Technical Note 5176, sections 13, 15 and 18;
-- Technical Note 5177, 3.1).
use Rattle.std.specs.Prelude.{◌≡◌, ◌↔◌, ℕ, List, Option, Some, None, slice_get}
use Rattle.postscript_base.specs.Index.Lent.{items_of}
use Rattle.postscript_drawing.specs.Components.{HasCharSet}
use Rattle.postscript_type2.specs.Program.Inlined.{inlined_text}
use Rattle.postscript_type2.specs.Program.Runs.{Run, fault_of, width_of}
use Rattle.postscript_view.specs.Advances.{HasRun, advance_of}
use Rattle.postscript_view.specs.Cids.{HasCid}
use Rattle.postscript_view.specs.Strings.{HasName}
use Rattle.postscript_view.specs.Value.{view_shown}
use Rattle.postscript_view.specs.declared.advance.Advance.{Advance}
use Rattle.postscript_view.specs.declared.char_set.CharSetView.{CharSetView}
use Rattle.postscript_view.specs.declared.font.FontView.{FontView}
use Rattle.postscript_view.specs.declared.private_dict.PrivateDict.{PrivateDict}
use Rattle.postscript_write.specs.Drawings.{AreLike, AreLikeKept}
use Rattle.postscript_write.specs.Glyphs.{Sources, code_text}

-- The run of the old glyph does not fail, and the new charstring is the text of that run without calls and returns. So hints, masks and the
-- operands of `endchar` are unchanged.
pub record IsInlined (old new : FontView) (glyph i : ℕ) : Type 0 where
  pub part : PrivateDict
  pub run : Run
  pub has : HasRun old glyph part run
  pub faultless : fault_of run.end ≡ None
  pub code : slice_get (items_of new.char_strings) i ≡ Some (code_text (inlined_text run.trace))

-- a glyph has this advance, or none
pub record HasAdvance (font : FontView) (glyph : ℕ) (advance : Option Advance) : Type 0 where
  pub part : PrivateDict
  pub run : Run
  pub has : HasRun font glyph part run
  pub is : advance_of part.dictionary (width_of run) ≡ advance

-- with these charsets both glyphs have the same name, or the same CID
pub record HaveSameName (old : FontView) (old_set : CharSetView) (glyph : ℕ) (new : FontView) (new_set : CharSetView) (i : ℕ) : Type 0 where
  pub name : (name : List ℕ) → HasName (view_shown old) old_set glyph name ↔ HasName (view_shown new) new_set i name
  pub cid : (cid : ℕ) → HasCid old old_set glyph cid ↔ HasCid new new_set i cid

-- A glyph of the new font has the charstring of an old glyph without calls, the same advance, and the same name or CID.
pub record IsSameGlyph (old new : FontView) (glyph i : ℕ) : Type 0 where
  pub code : IsInlined old new glyph i
  pub advance : (advance : Option Advance) → HasAdvance old glyph advance ↔ HasAdvance new i advance
  pub names : (old_set new_set : CharSetView) → HasCharSet old old_set → HasCharSet new new_set →
      HaveSameName old old_set glyph new new_set i

-- each glyph of the new font is the same as the one that it is made of
abbrev pub KeepsGlyphs : (sources : (glyphs : ℕ) → Sources) → (bytes flat : List ℕ) → Type 0
KeepsGlyphs = AreLike IsSameGlyph

abbrev pub GlyphsKept : (sources : (closed : List ℕ) (glyphs : ℕ) → Sources) → (named bytes flat : List ℕ) → Type 0
GlyphsKept = AreLikeKept IsSameGlyph

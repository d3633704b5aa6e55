-- The drawing of a glyph for C is the same as for a FontView.
use Rattle.std.specs.Prelude.{ℕ, ℤ, List, Option}
use Rattle.postscript_c.specs.Drawn.{IsDrawnOver, IsFirst}
use Rattle.postscript_c.specs.Parts.{IsPartIn}
use Rattle.postscript_c.specs.SameParts.{AreNumbersOf}
use Rattle.postscript_c.specs.AtStart.{NamesNoStart}
use Rattle.postscript_c.specs.declared.font.PsfFont.{PsfFont}
use Rattle.postscript_c.specs.declared.part.PsfPart.{PsfPart}
use Rattle.postscript_drawing.specs.Drawn.{IsDrawnAs}
use Rattle.postscript_outline.specs.declared.segment.Segment.{Segment}
use Rattle.postscript_view.specs.declared.font.FontView.{FontView}

-- The segments and the width of a glyph for C are the same as for the FontView, with its components.
abbrev pub DrawsSame : (bytes : List ℕ) (font : PsfFont) (view : FontView) (glyph : ℕ) → Type 0
DrawsSame bytes font view glyph =
    (told : PsfPart) (segments : List Segment) (width : Option ℤ) → IsPartIn bytes font glyph told
    → IsDrawnOver bytes font told glyph segments width → IsDrawnAs view glyph segments width

-- A law. This holds for each glyph of a font for C, if the same bytes begin with a FontView whose DICTs give nothing the offset 0.
abbrev pub DrawsInPlace : Type 0
DrawsInPlace = (bytes : List ℕ) (font : PsfFont) (view : FontView) (glyph : ℕ) → AreNumbersOf bytes font → IsFirst bytes view
    → NamesNoStart view → DrawsSame bytes font view glyph

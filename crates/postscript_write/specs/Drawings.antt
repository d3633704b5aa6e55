-- The drawings of the glyphs of a subset (Technical Note 5177, Appendix C).
use Rattle.std.specs.Prelude.{◌≡◌, ◌↔◌, ℕ, ℤ, ◌<◌, List, Option, Some, None, length, slice_index_or}
use Rattle.postscript_drawing.specs.Components.{glyphs_of}
use Rattle.postscript_drawing.specs.Drawn.{IsDrawnAs}
use Rattle.postscript_outline.specs.declared.segment.Segment.{Segment}
use Rattle.postscript_view.specs.declared.font.FontView.{FontView}
use Rattle.postscript_write.specs.Components.{AreClosed, IsOpened}
use Rattle.postscript_write.specs.Glyphs.{Sources}

-- a glyph is at an index of the list
pub record IsSourceAt (sources : Sources) (i glyph : ℕ) : Type 0 where
  pub there : i < length sources
  pub is : slice_index_or sources i None ≡ Some glyph

-- Two glyphs, of two fonts, are drawn as the same segments with the same width, or neither is drawn.
abbrev pub DrawsTheSame : (old new : FontView) → (glyph i : ℕ) → Type 0
DrawsTheSame old new glyph i = (segments : List Segment) (width : Option ℤ) → IsDrawnAs old glyph segments width
    ↔ IsDrawnAs new i segments width

-- a relation between a glyph of the old font and one of the new font
abbrev pub Likeness : Type 1
Likeness = (old new : FontView) (glyph i : ℕ) → Type 0

-- Each glyph of the new font is related to the glyph that it is made of, however the two fonts are opened.
abbrev pub AreLike : Likeness → (sources : (glyphs : ℕ) → Sources) → (bytes flat : List ℕ) → Type 0
AreLike IsLike sources bytes flat = (old new : FontView) (glyph i : ℕ) → IsOpened bytes old → IsOpened flat new →
    IsSourceAt (sources (glyphs_of old)) i glyph → IsLike old new glyph i

-- the same for the glyphs of a subset
abbrev pub AreLikeKept : Likeness → (sources : (closed : List ℕ) (glyphs : ℕ) → Sources) → (named bytes flat : List ℕ) → Type 0
AreLikeKept IsLike sources named bytes flat = (closed : List ℕ) × AreClosed bytes named closed × AreLike IsLike (sources closed) bytes flat

-- Each glyph of the new font is drawn as before.
abbrev pub KeepsDrawings : (sources : (glyphs : ℕ) → Sources) → (bytes flat : List ℕ) → Type 0
KeepsDrawings = AreLike DrawsTheSame

abbrev pub DrawsKept : (sources : (closed : List ℕ) (glyphs : ℕ) → Sources) → (named bytes flat : List ℕ) → Type 0
DrawsKept = AreLikeKept DrawsTheSame

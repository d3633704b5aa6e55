-- Glyphs that are reached one after the other from the named ones, and their marks.
use Rattle.std.specs.Prelude.{◌≡◌, ◌⊎◌, ◌↔◌, ℕ, ◌+◌, List, [], ◌∷◌, ◌++◌, Bool, true, false, length, slice_index_or}
use Rattle.std.specs.List.{Contains}
use Rattle.postscript_view.specs.declared.font.FontView.{FontView}
use Rattle.postscript_write.specs.Components.{IsReached}
use Rattle.postscript_write.specs.Costs.{AreDistinct}

-- the number of glyphs without a mark
abbrev pub unmarked_in : List Bool → ℕ
unmarked_in [] = 0
unmarked_in (true ∷ marks) = unmarked_in marks
unmarked_in (false ∷ marks) = unmarked_in marks + 1

-- the glyphs of a list are marked, and no others
abbrev pub AreMarkedAs : (marks : List Bool) → (glyphs : List ℕ) → Type 0
AreMarkedAs marks glyphs = (glyph : ℕ) → (slice_index_or marks glyph false ≡ true) ↔ Contains glyphs glyph

-- A list of reached glyphs has grown: new glyphs are appended, and each is marked once.
pub record Grow (marks : List Bool) (glyphs added : List ℕ) (new_marks : List Bool) (new_glyphs : List ℕ) : Type 0 where
  pub many : length new_marks ≡ length marks
  pub marked : AreMarkedAs new_marks new_glyphs
  pub more : List ℕ
  pub front : new_glyphs ≡ glyphs ++ more
  pub all : (glyph : ℕ) → Contains new_glyphs glyph ↔ (Contains glyphs glyph ⊎ Contains added glyph)
  pub spent : unmarked_in new_marks + length new_glyphs ≡ unmarked_in marks + length glyphs
  pub distinct : AreDistinct glyphs → AreDistinct new_glyphs

-- the glyphs that are reached from others
abbrev pub AreReached : FontView → (others glyphs : List ℕ) → Type 0
AreReached font others glyphs = (glyph : ℕ) → Contains glyphs glyph ↔ IsReached font others glyph

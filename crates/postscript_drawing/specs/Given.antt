-- The segments that a sink has received when the drawing of a glyph fails.
use Rattle.std.specs.Prelude.{◌≡◌, ◌⊎◌, ℕ}
use Rattle.postscript_outline.specs.Points.{point}
use Rattle.postscript_outline.specs.declared.point.Point.{Point}
use Rattle.postscript_outline.specs.declared.segment.Segment.{Segment}
use Rattle.postscript_type2.specs.Program.Runs.{Run}
use Rattle.postscript_view.specs.Advances.{HasRun}
use Rattle.postscript_view.specs.declared.font.FontView.{FontView}
use Rattle.postscript_view.specs.declared.private_dict.PrivateDict.{PrivateDict}
use Rattle.postscript_drawing.specs.Accents.{IsAccentOf}
use Rattle.postscript_drawing.specs.Components.{IsComponent}
use Rattle.postscript_drawing.specs.Drawn.{DrawsAt, DrawsComponent, Takes, zero_point}
use Rattle.postscript_drawing.specs.DrawnProgram.{DrawsFront, DrawsOfFirst}
use Rattle.postscript_drawing.specs.declared.accent.Accent.{Accent}

-- The sink has received a prefix of the segments of the glyph's own run, and of the first strokes of this run, which stay in the range.
pub record GivesOwnFront {T : Type 0} (after : T → Segment → T → Type 0) (origin : Point) (old new : T) (font : FontView)
    (glyph : ℕ) : Type 0 where
  pub part : PrivateDict
  pub run : Run
  pub has : HasRun font glyph part run
  pub front : DrawsFront after origin old new run.answers
  pub of_first : DrawsOfFirst after origin old new run.answers

-- for a glyph without its components: nothing, or such a prefix
abbrev pub GivesOwn : {T : Type 0} (after : T → Segment → T → Type 0) (origin : Point) (old new : T) → FontView → (glyph : ℕ) → Type 0
GivesOwn after origin old new font glyph = (new ≡ old) ⊎ GivesOwnFront after origin old new font glyph

-- the same for the glyph for a code
abbrev pub GivesComponent : {T : Type 0} (after : T → Segment → T → Type 0) (origin : Point) (old new : T) → FontView → (code : ℕ) → Type 0
GivesComponent after origin old new font code =
    (new ≡ old) ⊎ ((glyph : ℕ) × IsComponent font code glyph × GivesOwnFront after origin old new font glyph)

-- for a base and an accent: a prefix of the base, or all of it and a prefix of the accent
abbrev pub GivesComponents : {T : Type 0} (after : T → Segment → T → Type 0) (old new : T) → FontView → Accent → Type 0
GivesComponents {T} after old new font accent =
    GivesComponent after zero_point old new font accent.base
    ⊎ ((between : T) × Takes after old between (DrawsComponent font accent.base zero_point)
    × GivesComponent after (point accent.dx accent.dy) between new font accent.accent)

-- All of a `seac` glyph's own run, and a prefix of its components.
pub record GivesAccented {T : Type 0} (after : T → Segment → T → Type 0) (old new : T) (font : FontView) (glyph : ℕ) : Type 0 where
  pub accent : Accent
  pub between : T
  pub part : PrivateDict
  pub run : Run
  pub has : HasRun font glyph part run
  pub accented : IsAccentOf accent run
  pub own : Takes after old between (DrawsAt zero_point run)
  pub some : GivesComponents after between new font accent

-- for a glyph: nothing, a prefix of its own run, or all of it and a prefix of its components
abbrev pub GivesGlyph : {T : Type 0} (after : T → Segment → T → Type 0) (old new : T) → FontView → (glyph : ℕ) → Type 0
GivesGlyph after old new font glyph = GivesOwn after zero_point old new font glyph ⊎ GivesAccented after old new font glyph

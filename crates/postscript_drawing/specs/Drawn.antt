-- The drawing of a glyph: plain, or with a base and an accent (Technical Note 5177, Appendix C).
use Rattle.std.specs.Prelude.{◌≡◌, ◌⊎◌, ℕ, ℤ, pos, List, ◌++◌, Option, Ok}
use Rattle.postscript_outline.specs.Contours.{AreContours}
use Rattle.postscript_outline.specs.Points.{point}
use Rattle.postscript_drawing.specs.Outline.{outlined_at}
use Rattle.postscript_outline.specs.declared.point.Point.{Point}
use Rattle.postscript_outline.specs.declared.segment.Segment.{Segment}
use Rattle.postscript_outline.specs.Sinks.{Receives}
use Rattle.postscript_type2.specs.Program.Runs.{Run, width_of}
use Rattle.postscript_view.specs.Advances.{HasRun}
use Rattle.postscript_view.specs.declared.font.FontView.{FontView}
use Rattle.postscript_view.specs.declared.private_dict.PrivateDict.{PrivateDict}
use Rattle.postscript_drawing.specs.Accents.{IsAccentOf, IsPlain, IsTold}
use Rattle.postscript_drawing.specs.Components.{IsComponent}
use Rattle.postscript_drawing.specs.declared.accent.Accent.{Accent}

abbrev pub zero_point : Point
zero_point = point (pos 0) (pos 0)

-- A sink has received segments with this property, one after another.
abbrev pub Takes : {T : Type 0} (after : T → Segment → T → Type 0) (old new : T) → (List Segment → Type 0) → Type 0
Takes after old new Holds = (segments : List Segment) × Holds segments × Receives after old segments new

-- The run draws these segments, with the origin of the glyph at a point.
abbrev pub DrawsAt : Point → Run → List Segment → Type 0
DrawsAt origin run segments = outlined_at origin run.answers run.end ≡ Ok segments

-- A glyph of the font without its components: the segments of its run, its width, and the operands of its `endchar`.
pub record HasOwn (font : FontView) (glyph : ℕ) (origin : Point) (segments : List Segment) (width : Option ℤ)
    (accent : Option Accent) : Type 0 where
  pub part : PrivateDict
  pub run : Run
  pub has : HasRun font glyph part run
  pub draws : DrawsAt origin run segments
  pub width_is : width ≡ width_of run
  pub told : IsTold accent run

-- A component is a plain glyph. It draws the segments of its run.
pub record DrawsComponent (font : FontView) (code : ℕ) (origin : Point) (segments : List Segment) : Type 0 where
  pub glyph : ℕ
  pub part : PrivateDict
  pub run : Run
  pub component : IsComponent font code glyph
  pub has : HasRun font glyph part run
  pub plain : IsPlain run
  pub draws : DrawsAt origin run segments

-- A plain glyph draws the segments of its run.
pub record DrawsPlain (run : Run) (segments : List Segment) : Type 0 where
  pub plain : IsPlain run
  pub draws : DrawsAt zero_point run segments

-- The components: the base, and then the accent, whose origin is at (adx, ady).
pub record DrawsComponents (font : FontView) (accent : Accent) (segments : List Segment) : Type 0 where
  pub base : List Segment
  pub above : List Segment
  pub draws_base : DrawsComponent font accent.base zero_point base
  pub draws_accent : DrawsComponent font accent.accent (point accent.dx accent.dy) above
  pub all : segments ≡ base ++ above

-- A `seac` glyph draws the segments of its run, and then its components.
pub record DrawsAccented (font : FontView) (run : Run) (segments : List Segment) : Type 0 where
  pub accent : Accent
  pub own : List Segment
  pub more : List Segment
  pub accented : IsAccentOf accent run
  pub draws_own : DrawsAt zero_point run own
  pub draws_more : DrawsComponents font accent more
  pub all : segments ≡ own ++ more

-- A glyph draws these segments, and has the width of its run.
pub record IsDrawnAs (font : FontView) (glyph : ℕ) (segments : List Segment) (width : Option ℤ) : Type 0 where
  pub part : PrivateDict
  pub run : Run
  pub has : HasRun font glyph part run
  pub drawn : DrawsPlain run segments ⊎ DrawsAccented font run segments
  pub width_is : width ≡ width_of run

-- A glyph is drawn into a sink, and has this width.
abbrev pub DrawsGlyph : {T : Type 0} (after : T → Segment → T → Type 0) (old new : T) → (font : FontView) (glyph : ℕ)
    (width : Option ℤ) → Type 0
DrawsGlyph after old new font glyph width = Takes after old new (λ segments. IsDrawnAs font glyph segments width)

-- A law: the segments of a glyph are contours.
abbrev pub DrawsContours : Type 0
DrawsContours = (font : FontView) (glyph : ℕ) (segments : List Segment) (width : Option ℤ) → IsDrawnAs font glyph segments width →
    AreContours segments

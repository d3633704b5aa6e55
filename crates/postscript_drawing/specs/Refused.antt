-- Why a glyph is not drawn.
use Rattle.std.specs.Prelude.{◌≡◌, ◌⊎◌, ℕ, List}
use Rattle.postscript_outline.specs.Points.{point}
use Rattle.postscript_outline.specs.declared.point.Point.{Point}
use Rattle.postscript_outline.specs.declared.segment.Segment.{Segment}
use Rattle.postscript_type2.specs.Program.Runs.{Run, taken_by}
use Rattle.postscript_view.specs.Advances.{HasRun}
use Rattle.postscript_view.specs.Glyphs.{HasGlyph}
use Rattle.postscript_view.specs.declared.font.FontView.{FontView}
use Rattle.postscript_view.specs.declared.private_dict.PrivateDict.{PrivateDict}
use Rattle.postscript_drawing.specs.Accents.{HasNoCodes, IsAccentOf}
use Rattle.postscript_drawing.specs.DrawnProgram.{IsUndrawn, IsWanting}
use Rattle.postscript_drawing.specs.Components.{HasNoComponent, IsComponent}
use Rattle.postscript_drawing.specs.Drawn.{DrawsComponent, zero_point}
use Rattle.postscript_drawing.specs.declared.accent.Accent.{Accent}
use Rattle.postscript_drawing.specs.declared.error.Error.{Error}
use Rattle.postscript_drawing.specs.declared.error.Error.TheVariants.{NoCode, NoSuchGlyph, NestedAccent}

-- there is no glyph with this number, or it has no part
abbrev pub IsAbsent : FontView → (glyph : ℕ) → Type 0
IsAbsent font glyph = (code : List ℕ) (part : PrivateDict) → HasGlyph font glyph code part → ⊥

-- its `endchar` takes four operands, but the last two are not both codes
abbrev pub IsUnread : Error → Run → Type 0
IsUnread e run = (e ≡ NoCode) × HasNoCodes (taken_by run.end)

-- The run of a glyph has no outline, or its `endchar` has no codes.
pub record IsRunRefused (font : FontView) (glyph : ℕ) (origin : Point) (e : Error) : Type 0 where
  pub part : PrivateDict
  pub run : Run
  pub has : HasRun font glyph part run
  pub why : IsUndrawn origin e run.answers run.end ⊎ IsUnread e run

-- why a glyph without its components is not drawn
abbrev pub IsGlyphRefused : FontView → (glyph : ℕ) → (origin : Point) → Error → Type 0
IsGlyphRefused font glyph origin e = ((e ≡ NoSuchGlyph glyph) × IsAbsent font glyph) ⊎ IsRunRefused font glyph origin e

-- A glyph of the font is a `seac` glyph with these operands.
pub record IsAccented (font : FontView) (glyph : ℕ) (accent : Accent) : Type 0 where
  pub part : PrivateDict
  pub run : Run
  pub has : HasRun font glyph part run
  pub accented : IsAccentOf accent run

-- The glyph for a code is a `seac` glyph itself.
pub record IsNested (font : FontView) (code : ℕ) : Type 0 where
  pub glyph : ℕ
  pub accent : Accent
  pub component : IsComponent font code glyph
  pub accented : IsAccented font glyph accent

-- the glyph for a code, without components, is not drawn
pub record IsComponentUndrawn (font : FontView) (code : ℕ) (origin : Point) (e : Error) : Type 0 where
  pub glyph : ℕ
  pub component : IsComponent font code glyph
  pub refused : IsGlyphRefused font glyph origin e

-- Why the glyph for a code is not drawn as a component: there is none, it is not drawn itself, or it is a `seac` glyph.
abbrev pub IsComponentRefused : FontView → (code : ℕ) → (origin : Point) → Error → Type 0
IsComponentRefused font code origin e = HasNoComponent e font code ⊎ IsComponentUndrawn font code origin e
    ⊎ ((e ≡ NestedAccent code) × IsNested font code)

-- The accent is not drawn as a component, but the base is.
pub record IsAccentRefused (font : FontView) (accent : Accent) (e : Error) : Type 0 where
  pub base : List Segment
  pub draws_base : DrawsComponent font accent.base zero_point base
  pub refused : IsComponentRefused font accent.accent (point accent.dx accent.dy) e

-- why the components are not drawn: the base fails, or the accent after it
abbrev pub AreRefused : FontView → Accent → Error → Type 0
AreRefused font accent e = IsComponentRefused font accent.base zero_point e ⊎ IsAccentRefused font accent e

-- Why the components of a glyph are not drawn.
pub record HasComponentsRefused (font : FontView) (glyph : ℕ) (e : Error) : Type 0 where
  pub accent : Accent
  pub accented : IsAccented font glyph accent
  pub refused : AreRefused font accent e

-- Why a glyph is not drawn: memory runs out, the sink is full, the limit is used up, the glyph itself fails, or its components do.
abbrev pub IsUndrawnGlyph : FontView → (glyph : ℕ) → (left : ℕ) → Error → Type 0
IsUndrawnGlyph font glyph left e = IsWanting left e ⊎ IsGlyphRefused font glyph zero_point e ⊎ HasComponentsRefused font glyph e

-- The components of `seac` glyphs, which are kept with them (Technical Note 5177, Appendix C, "Compatibility and Deprecated Operators").
use Rattle.std.specs.Prelude.{◌≡◌, ◌≢◌, ◌⊎◌, ◌↔◌, ℕ, List, Option, Some, None, true, length, slice_index_or}
use Rattle.std.specs.List.{Contains}
use Rattle.std.specs.Option.{MatchOption}
use Rattle.postscript_drawing.specs.Accents.{IsAccentOf}
use Rattle.postscript_drawing.specs.Components.{HasNoCharSet, IsComponent, glyphs_of}
use Rattle.postscript_drawing.specs.Refused.{IsAccented}
use Rattle.postscript_drawing.specs.declared.accent.Accent.{Accent}
use Rattle.postscript_base.specs.declared.error.Error.TheVariants.{Memory}
use Rattle.postscript_type2.specs.Program.Runs.{Run}
use Rattle.postscript_view.specs.Layout.{IsLaidOut}
use Rattle.postscript_view.specs.Value.{view_shown}
use Rattle.postscript_view.specs.declared.font.FontView.{FontView}
use Rattle.postscript_write.specs.Glyphs.{Sources}
use Rattle.postscript_write.specs.Making.{Making}
use Rattle.postscript_write.specs.Sources.{IsWritten, is_kept, kept_of}
use Rattle.postscript_write.specs.declared.error.Error.{Error}
use Rattle.postscript_write.specs.declared.error.Error.TheVariants.{Refused}

-- A glyph is a `seac` glyph, and another one is its base or its accent.
pub record IsComponentOf (font : FontView) (from glyph : ℕ) : Type 0 where
  pub accent : Accent
  pub accented : IsAccented font from accent
  pub named : IsComponent font accent.base glyph ⊎ IsComponent font accent.accent glyph

-- A glyph is reached from the named ones: it is one of them, or .notdef, or a component of a reached glyph.
pub data IsReached (font : FontView) (named : List ℕ) : ℕ → Type 0 where
  is_named : (glyph : ℕ) → is_kept named glyph ≡ true → IsReached font named glyph
  is_drawn_with : (from glyph : ℕ) → IsReached font named from → IsComponentOf font from glyph → IsReached font named glyph

-- The font at the beginning of the bytes, opened in place.
pub record IsOpened (bytes : List ℕ) (font : FontView) : Type 0 where
  pub laid : IsLaidOut bytes 0 (view_shown font)
  pub there : font.bytes.now ≡ bytes

-- The kept glyphs are the ones that are reached from the named ones, in the font at the beginning of the bytes.
pub record AreClosed (bytes named closed : List ℕ) : Type 0 where
  pub font : FontView
  pub opened : IsOpened bytes font
  pub all : (glyph : ℕ) → (is_kept closed glyph ≡ true) ↔ IsReached font named glyph

-- The glyphs of a subset, in ascending order: the ones that are reached from the named ones.
pub record AreKept (named bytes kept : List ℕ) : Type 0 where
  pub closed : List ℕ
  pub are : AreClosed bytes named closed
  pub all : kept ≡ kept_of closed (glyphs_of are.font)

-- The new font is made of the glyphs that are reached from the named ones.
pub record IsSubset (is_made : Making) (sources : (closed : List ℕ) (glyphs : ℕ) → Sources) (named bytes flat : List ℕ) : Type 0 where
  pub closed : List ℕ
  pub are : AreClosed bytes named closed
  pub written : IsWritten is_made (sources closed) bytes flat

-- a run ends as a `seac` glyph with this accent, or not as one
abbrev pub IsSaid : Option Accent → Run → Type 0
IsSaid found run = MatchOption found ((accent : Accent) → IsAccentOf accent run → ⊥) (λ accent. IsAccentOf accent run)

-- a glyph is a `seac` glyph with this accent, or not one
abbrev pub IsSaidOf : FontView → (glyph : ℕ) → Option Accent → Type 0
IsSaidOf font glyph found = MatchOption found ((accent : Accent) → IsAccented font glyph accent → ⊥)
    (λ accent. IsAccented font glyph accent)

-- the glyph of a code, or none if the font has no such glyph
abbrev pub IsFound : FontView → (code : ℕ) → Option ℕ → Type 0
IsFound font code found = MatchOption found ((glyph : ℕ) → IsComponent font code glyph → ⊥) (λ glyph. IsComponent font code glyph)

-- The known codes, of 256: for each code that was looked up, its glyph, or that the font has none.
abbrev pub AreKnown : FontView → List (Option (Option ℕ)) → Type 0
AreKnown font known = (length known ≡ 256) × ((code : ℕ) (found : Option ℕ) → slice_index_or known code None ≡ Some found →
    IsFound font code found)

-- the components of a glyph
abbrev pub AreComponentsOf : FontView → (from : ℕ) → List ℕ → Type 0
AreComponentsOf font from components = (glyph : ℕ) → Contains components glyph ↔ IsComponentOf font from glyph

-- the components are unknown, since the font has no charset, for this reason
abbrev pub IsUntold : FontView → Error → Type 0
IsUntold font (Refused cause) = cause ≢ Memory → HasNoCharSet cause font
IsUntold font _ = ⊥

-- Texts that a shaper changes, one substitution after the other.
use Rattle.std.specs.Prelude.{◌⊎◌, ℕ, List}
use Rattle.std.specs.List.{All, Contains}
use Rattle.postscript_layout.specs.Substitutions.{Substitutes}
use Rattle.postscript_layout.specs.Closure.{IsClosed}

-- A step of a shaper that uses only the chosen lookups: a substitution of glyphs of the text. Each glyph of the new text is a glyph of the old one or a new glyph of the
-- substitution. The order of glyphs, the context, and which glyphs are skipped or removed are left open.
pub record IsStep (gsub lookups before after : List ℕ) : Type 0 where
  pub ins : List ℕ
  pub outs : List ℕ
  pub is : Substitutes gsub lookups ins outs
  pub there : All (Contains before) ins
  pub from : (glyph : ℕ) → Contains after glyph → Contains before glyph ⊎ Contains outs glyph

-- the texts that any number of steps makes
pub data ComesTo (gsub lookups first : List ℕ) : List ℕ → Type 0 where
  no_step : ComesTo gsub lookups first first
  step_more : (before after : List ℕ) → ComesTo gsub lookups first before → IsStep gsub lookups before after →
      ComesTo gsub lookups first after

-- if a list of glyphs is closed, text with its glyphs keeps to its glyphs
abbrev pub TextStays : Type 0
TextStays = (gsub lookups glyphs first last : List ℕ) → IsClosed gsub lookups glyphs → All (Contains glyphs) first →
    ComesTo gsub lookups first last →
    All (Contains glyphs) last

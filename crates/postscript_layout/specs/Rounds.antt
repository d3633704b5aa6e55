-- The number of rounds of a closure, and the limit that suffices for it.
use Rattle.std.specs.Prelude.{◌⊎◌, ℕ, zero, suc, ◌+◌, ◌*◌, ◌<◌, ◌≤◌, List}
use Rattle.std.specs.List.{All, Contains}
use Rattle.postscript_layout.specs.Closure.{IsClosed, IsClosure}
use Rattle.postscript_layout.specs.Costs.{round_cost}
use Rattle.postscript_layout.specs.Steps.{IsHeld}
use Rattle.postscript_layout.specs.Substitutions.{Substitutes}
use Rattle.postscript_layout.specs.declared.glyph_set.GlyphSet.{GlyphSet}

-- The glyphs after a number of rounds. Each round adds the new glyphs of every substitution by a chosen lookup of glyphs that were there before
-- it.
abbrev pub After : (gsub lookups : List ℕ) → (first : ℕ → Type 0) → (rounds glyph : ℕ) → Type 0
After gsub lookups first zero glyph = first glyph
After gsub lookups first (suc n) glyph = After gsub lookups first n glyph
    ⊎ ((ins : List ℕ) × (outs : List ℕ) × Substitutes gsub lookups ins outs × All (After gsub lookups first n) ins × Contains outs glyph)

-- all glyphs of the closure are there after a number of rounds
pub record IsCompleteAfter (gsub lookups given : List ℕ) (rounds : ℕ) : Type 0 where
  pub glyphs : List ℕ
  pub closure : IsClosure gsub lookups given glyphs
  pub reached : All (After gsub lookups (Contains given) rounds) glyphs

-- the limit pays for the rounds that complete the closure, and for one more, which adds no glyph
pub record Suffices (gsub lookups given : List ℕ) (limit : ℕ) : Type 0 where
  pub rounds : ℕ
  pub complete : IsCompleteAfter gsub lookups given rounds
  pub pays : (rounds + 1) * round_cost gsub lookups ≤ limit

-- the limit does not pay for that, beginning with the glyphs of a set
abbrev pub IsTooLow : (gsub lookups : List ℕ) → GlyphSet → (limit : ℕ) → Type 0
IsTooLow gsub lookups set limit = (glyphs : List ℕ) (rounds : ℕ) → IsClosed gsub lookups glyphs → ((glyph : ℕ) → IsHeld set glyph → Contains glyphs glyph) →
    All (After gsub lookups (IsHeld set) rounds) glyphs →
    limit < (rounds + 1) * round_cost gsub lookups

-- How a limit is spent on the runs of glyphs.
use Rattle.std.specs.Prelude.{◌≡◌, ◌⊎◌, ℕ, zero, suc, ◌-◌, ◌<◌, List, [], ◌++◌, Option, Some, None}
use Rattle.postscript_drawing.specs.Accents.{IsAccentOf, IsTold}
use Rattle.postscript_drawing.specs.Components.{IsComponent}
use Rattle.postscript_drawing.specs.declared.accent.Accent.{Accent}
use Rattle.postscript_type2.specs.Program.Limit.{cost, Spends}
use Rattle.postscript_type2.specs.Program.Runs.{Phrase, Run}
use Rattle.postscript_view.specs.Advances.{HasRun}
use Rattle.postscript_view.specs.declared.font.FontView.{FontView}
use Rattle.postscript_view.specs.declared.private_dict.PrivateDict.{PrivateDict}

-- Phrases at the front of the runs of glyphs of the font, for at most `count` runs.
abbrev pub AreOfRuns : (font : FontView) (count : ℕ) → List Phrase → Type 0
AreOfRuns font zero phrases = phrases ≡ []
AreOfRuns font (suc more) phrases = (phrases ≡ []) ⊎ ((glyph : ℕ) × (part : PrivateDict) × (run : Run) × (first rest others : List Phrase) ×
    HasRun font glyph part run × (run.trace ≡ first ++ rest) × (phrases ≡ first ++ others) × AreOfRuns font more others)

-- Such phrases were run, and are paid for.
abbrev pub SpendsOnRuns : (font : FontView) (count limit left : ℕ) → Type 0
SpendsOnRuns font count limit left = (phrases : List Phrase) × AreOfRuns font count phrases × Spends limit phrases left []

-- All phrases of the run of a glyph, which has these components or none, were run within a limit and are paid for.
pub record PaysOwn (font : FontView) (glyph : ℕ) (accent : Option Accent) (limit left : ℕ) : Type 0 where
  pub part : PrivateDict
  pub run : Run
  pub has : HasRun font glyph part run
  pub told : IsTold accent run
  pub paid : Spends limit run.trace left []

-- all phrases of the glyph for a code, which is a plain glyph
abbrev pub PaysCode : (font : FontView) (code limit left : ℕ) → Type 0
PaysCode font code limit left = (glyph : ℕ) × IsComponent font code glyph × PaysOwn font glyph None limit left

-- all phrases of the base, and then of the accent, within the limit that is left
abbrev pub PaysComponents : (font : FontView) (accent : Accent) (limit left : ℕ) → Type 0
PaysComponents font accent limit left = (between : ℕ) × PaysCode font accent.base limit between × PaysCode font accent.accent between left

-- all phrases of a glyph, and of the components of a `seac` glyph within the limit that is left
abbrev pub PaysDrawing : (font : FontView) (glyph limit left : ℕ) → Type 0
PaysDrawing font glyph limit left =
    PaysOwn font glyph None limit left
    ⊎ ((accent : Accent) × (between : ℕ) × PaysOwn font glyph (Some accent) limit between × PaysComponents font accent between left)

-- Phrases at the front of the run of a glyph were run, and are paid for.
abbrev pub SpendsOnRunOf : (font : FontView) (glyph limit left : ℕ) → Type 0
SpendsOnRunOf font glyph limit left =
    (part : PrivateDict) × (run : Run) × HasRun font glyph part run × ((rest : List Phrase) × Spends limit run.trace left rest)

-- for a glyph without its components: nothing, or such phrases
abbrev pub SpendsOnOwn : (font : FontView) (glyph limit left : ℕ) → Type 0
SpendsOnOwn font glyph limit left = (left ≡ limit) ⊎ SpendsOnRunOf font glyph limit left

-- the same for the glyph for a code
abbrev pub SpendsOnCode : (font : FontView) (code limit left : ℕ) → Type 0
SpendsOnCode font code limit left = (left ≡ limit) ⊎ ((glyph : ℕ) × IsComponent font code glyph × SpendsOnRunOf font glyph limit left)

-- for a base and an accent: some of the base, or all of it and some of the accent within the limit that is left
abbrev pub SpendsOnComponents : (font : FontView) (accent : Accent) (limit left : ℕ) → Type 0
SpendsOnComponents font accent limit left =
    SpendsOnCode font accent.base limit left
    ⊎ ((between : ℕ) × PaysCode font accent.base limit between × SpendsOnCode font accent.accent between left)

-- for a glyph: some of its own run, or all of it and some of its components within the limit that is left
abbrev pub SpendsOnGlyph : (font : FontView) (glyph limit left : ℕ) → Type 0
SpendsOnGlyph font glyph limit left =
    SpendsOnOwn font glyph limit left
    ⊎ ((accent : Accent) × (between : ℕ) × PaysOwn font glyph (Some accent) limit between × SpendsOnComponents font accent between left)

-- The run of a glyph costs less than the limit. A glyph that does not exist has no run.
abbrev pub SufficesForOwn : (font : FontView) (glyph limit : ℕ) → Type 0
SufficesForOwn font glyph limit = (part : PrivateDict) (run : Run) → HasRun font glyph part run → cost run.trace < limit

-- the run of the glyph for a code does
abbrev pub SufficesForCode : (font : FontView) (code limit : ℕ) → Type 0
SufficesForCode font code limit = (glyph : ℕ) → IsComponent font code glyph → SufficesForOwn font glyph limit

-- The run of the base does, and the run of the accent costs less than the limit that is left then.
pub record SufficesForComponents (font : FontView) (accent : Accent) (limit : ℕ) : Type 0 where
  pub base : SufficesForCode font accent.base limit
  pub then : (glyph : ℕ) (part : PrivateDict) (run : Run) → IsComponent font accent.base glyph → HasRun font glyph part run →
      SufficesForCode font accent.accent (limit - cost run.trace)

-- The run of the glyph does, and the runs of its components cost less than the limit that is left then.
pub record SufficesFor (font : FontView) (glyph limit : ℕ) : Type 0 where
  pub own : SufficesForOwn font glyph limit
  pub then : (part : PrivateDict) (run : Run) (accent : Accent) → HasRun font glyph part run → IsAccentOf accent run →
      SufficesForComponents font accent (limit - cost run.trace)

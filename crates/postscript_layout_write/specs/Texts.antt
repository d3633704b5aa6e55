-- Texts that a shaper can make with chosen lookups, and with the lookups that their contexts call.
use Rattle.std.specs.Prelude.{ℕ, ◌++◌, ◌∷◌, List}
use Rattle.std.specs.List.{All, Contains}
use Rattle.postscript_layout.specs.Texts.{IsStep}
use Rattle.postscript_layout_write.specs.Calls.{Calls}
use Rattle.postscript_layout_write.specs.Reached.{AreWhole}

-- A text after any number of steps from a first one. Each step is a substitution by one of the lookups, which are the chosen ones and those that a context
-- has called. A context may call its lookups if each of its sets has a glyph that a text has had so far.
pub data MayBecome (gsub chosen first : List ℕ) : (lookups had text : List ℕ) → Type 0 where
  unchanged : MayBecome gsub chosen first chosen first first
  substituted : (lookups had before after : List ℕ) → MayBecome gsub chosen first lookups had before → IsStep gsub lookups before after →
      MayBecome gsub chosen first lookups (had ++ after) after
  called : (lookups had text : List ℕ) (i m : ℕ) → MayBecome gsub chosen first lookups had text → Contains lookups i → Calls gsub had i m →
      MayBecome gsub chosen first (m ∷ lookups) had text

-- text with glyphs of a whole list keeps to its glyphs, if the chosen lookups are in it too
abbrev pub TextStays : Type 0
TextStays = (gsub lookups glyphs chosen first used had last : List ℕ) → AreWhole gsub lookups glyphs → All (Contains lookups) chosen →
    All (Contains glyphs) first → MayBecome gsub chosen first used had last → All (Contains glyphs) last

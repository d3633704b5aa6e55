-- The closure of glyphs over chosen lookups of the GSUB table: all glyphs that their substitutions can make of them.
use Rattle.std.specs.Prelude.{ℕ, List}
use Rattle.std.specs.List.{All, Contains}
use Rattle.postscript_layout.specs.Substitutions.{Substitutes}

-- A set of substitutions: each replaces the glyphs ins by the glyphs outs.
abbrev pub Rules : Type 1
Rules = (ins outs : List ℕ) → Type 0

-- if a substitution replaces only glyphs that are there, its new glyphs are there
abbrev pub IsClosedBy : Rules → (ℕ → Type 0) → Type 0
IsClosedBy rules there = (ins outs : List ℕ) → rules ins outs → All there ins → All there outs

-- the chosen lookups substitute only glyphs of the list for glyphs of the list
abbrev pub IsClosed : (gsub lookups : List ℕ) → List ℕ → Type 0
IsClosed gsub lookups glyphs = IsClosedBy (Substitutes gsub lookups) (Contains glyphs)

-- The list has the given glyphs and is closed, and every other closed list with the given glyphs has all of its glyphs.
pub record IsClosure (gsub lookups given glyphs : List ℕ) : Type 0 where
  pub holds : All (Contains glyphs) given
  pub closed : IsClosed gsub lookups glyphs
  pub least : (other : List ℕ) → All (Contains other) given → IsClosed gsub lookups other → All (Contains other) glyphs

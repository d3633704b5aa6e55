-- The lookups that chosen ones call, and the glyphs that all of these can make of given ones. Each depends on the other: a context can call a lookup
-- only if there are glyphs for it.
use Rattle.std.specs.Prelude.{ℕ, List}
use Rattle.std.specs.List.{All, Contains}
use Rattle.postscript_layout.specs.Closure.{IsClosed}
use Rattle.postscript_layout_write.specs.Calls.{HasCalled}

-- the lookups make no other glyphs of these, and their contexts call no other lookups if there are only these glyphs
pub record AreWhole (gsub lookups glyphs : List ℕ) : Type 0 where
  pub made : IsClosed gsub lookups glyphs
  pub called : HasCalled gsub glyphs lookups

-- the least lists with the chosen lookups and the given glyphs that are whole
pub record AreReached (gsub chosen given lookups glyphs : List ℕ) : Type 0 where
  pub chosen_there : All (Contains lookups) chosen
  pub given_there : All (Contains glyphs) given
  pub whole : AreWhole gsub lookups glyphs
  pub least : (others more : List ℕ) → All (Contains others) chosen → All (Contains more) given → AreWhole gsub others more →
      All (Contains others) lookups × All (Contains more) glyphs

-- Charsets as contracts see them.
use Rattle.std.specs.Prelude.{ℕ, List}

-- format 0: the SIDs of the glyphs from glyph 1
pub record Listed : Type 0 where
  pub format : ℕ
  pub glyphs : List ℕ

-- the formats with ranges: the ranges that cover the glyphs from glyph 1
pub record Covered (A : Type 0) : Type 0 where
  pub format : ℕ
  pub ranges : List A

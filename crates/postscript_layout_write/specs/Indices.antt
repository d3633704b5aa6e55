-- The coverage indices of a first glyph, which are looked up once for all second glyphs.
use Rattle.std.specs.Prelude.{◌≡◌, ℕ, ◌+◌, ◌<◌, List, Option, None, length, slice_index_or}
use Rattle.postscript_layout.specs.Numbers.{word}
use Rattle.postscript_layout_write.specs.Pairs.{index_at, pairs_at}

-- entry j is the coverage index in subtable j
pub record AreIndices (gpos : List ℕ) (lookup first : ℕ) (indices : List (Option ℕ)) : Type 0 where
  pub many : length indices ≡ word gpos (lookup + 4)
  pub few : length indices < 65536
  pub each : (j : ℕ) → j < length indices → slice_index_or indices j None ≡ index_at gpos (pairs_at gpos lookup j) first

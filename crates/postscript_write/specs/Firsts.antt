-- Ranges of glyphs, by the first glyph of each.
use Rattle.std.specs.Prelude.{ℕ, ◌+◌, ◌<◌, ◌≤◌, List, length, slice_index_or}

-- A glyph is in a range, given the first glyphs of all ranges, and goes with the first glyph of that range.
pub record LiesInOne (Goes : (first glyph : ℕ) → Type 0) (firsts : List ℕ) (glyphs glyph : ℕ) : Type 0 where
  pub range : ℕ
  pub there : range < length firsts
  pub from : slice_index_or firsts range glyphs ≤ glyph
  pub to : glyph < slice_index_or firsts (range + 1) glyphs
  pub goes : Goes (slice_index_or firsts range glyphs) glyph

-- The first glyphs of the ranges, in ascending order. The last range ends at the number of glyphs.
pub record AreFirsts (Goes : (first glyph : ℕ) → Type 0) (firsts : List ℕ) (glyphs : ℕ) : Type 0 where
  pub few : length firsts ≤ glyphs
  pub below : (r : ℕ) → r < length firsts → slice_index_or firsts r glyphs < glyphs
  pub rise : (r : ℕ) → r < length firsts → slice_index_or firsts r glyphs < slice_index_or firsts (r + 1) glyphs
  pub each : (glyph : ℕ) → glyph < glyphs → LiesInOne Goes firsts glyphs glyph

use Rattle.std.proofs.Common.{ℕ, ◌-◌, ◌<◌, ◌≤◌}
use Rattle.postscript_vertical.specs.Origins.{glyph_at, records_in}
use Rattle.postscript_vertical.proofs.origins.record_of.Given as goal

-- the glyphs before `low` are lower, and those from `high` on are higher
abbrev pub invariant-loop-low : goal.invariant-loop-low
invariant-loop-low l = record {
  order : l.low ≤ l.high;
  within : l.high ≤ records_in l.vorg;
  below : (k : ℕ) → k < l.low → glyph_at l.vorg k < l.glyph;
  above : (k : ℕ) → l.high ≤ k → k < records_in l.vorg → l.glyph < glyph_at l.vorg k;
}

abbrev pub decreases-loop-low : goal.decreases-loop-low
decreases-loop-low l = l.high - l.low

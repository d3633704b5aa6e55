use Rattle.std.proofs.Common.{◌≡◌, ◌<◌, ℕ, take, get_or}
use Rattle.postscript_files.proofs.sequences.wide.Given as goal

abbrev pub invariant-loop-glyph : goal.invariant-loop-glyph
invariant-loop-glyph l = record {
  same : l.wide.items ≡ take l.glyph-index l.glyphs;
  small : (k : ℕ) → k < l.glyph-index → get_or l.glyphs k 0 < 65536;
}

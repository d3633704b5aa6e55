use Rattle.std.proofs.Common.{◌≡◌, ℕ, ◌<◌, length, get_or}
use Rattle.postscript_sfnt.specs.CharacterMap.{IsGlyphOf, first4, last4, gives4}
use Rattle.postscript_sfnt.proofs.character_map.segments.Segments.glyphs.Given as goal

-- each character so far has its glyph
abbrev pub invariant-loop-char : goal.invariant-loop-char
invariant-loop-char l = record {
  all : length l.glyphs.items ≡ l.char;
  each : (k : ℕ) → k < l.char → IsGlyphOf (first4 l.self.table.now l.self.count) (last4 l.self.table.now)
      (gives4 l.self.table.now l.self.count) l.self.count k (get_or l.glyphs.items k 0);
}

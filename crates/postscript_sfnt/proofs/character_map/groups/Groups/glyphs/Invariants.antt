use Rattle.std.proofs.Common.{◌≡◌, ℕ, ◌<◌, length, get_or}
use Rattle.postscript_sfnt.specs.CharacterMap.{IsGlyphOf, first12, last12, gives12}
use Rattle.postscript_sfnt.proofs.character_map.groups.Groups.glyphs.Given as goal

-- each character so far has its glyph
abbrev pub invariant-loop-char : goal.invariant-loop-char
invariant-loop-char l = record {
  all : length l.glyphs.items ≡ l.char;
  each : (k : ℕ) → k < l.char → IsGlyphOf (first12 l.self.table.now) (last12 l.self.table.now)
      (gives12 l.self.table.now) l.self.count k (get_or l.glyphs.items k 0);
}

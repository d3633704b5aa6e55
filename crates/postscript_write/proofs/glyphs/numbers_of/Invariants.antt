use Rattle.std.proofs.Common.{◌≡◌, ℕ, ◌<◌, get_or, length, None}
use Rattle.postscript_base.specs.Index.Lent.{items_of}
use Rattle.postscript_view.specs.Value.{view_shown}
use Rattle.postscript_write.specs.Glyphs.{ShowsPartFor, IsGlyph}
use Rattle.postscript_write.proofs.glyphs.numbers_of.Given as goal

abbrev pub invariant-loop-i : goal.invariant-loop-i
invariant-loop-i l =
    (length l.numbers.items ≡ l.i)
    × ((k : ℕ) → k < l.i → ShowsPartFor l.font.bytes.now (view_shown l.font) (get_or l.sources k None) (get_or l.numbers.items k 0))
    × ((k : ℕ) → k < l.i → IsGlyph (get_or l.sources k None) (length (items_of l.font.char_strings)))

use Rattle.std.proofs.Common.{◌≡◌, ◌<◌, ℕ, false, get_or, drop, length}
use Rattle.std.specs.Prelude.{◌||◌}
use Rattle.postscript_write.specs.Sources.{is_kept}
use Rattle.postscript_write.proofs.sources.marks_of.Given as goal

abbrev pub invariant-loop-i : goal.invariant-loop-i
invariant-loop-i l =
    (length l.marks.items ≡ l.glyphs) × ((k : ℕ) → k < l.i → get_or l.named k
    0 < l.glyphs) × ((g : ℕ) → g < l.glyphs → (get_or l.marks.items g false || is_kept (drop l.i l.named) g) ≡ is_kept l.named g)

use Rattle.std.proofs.Common.{ℕ, ◌<◌, get_or, length, take}
use Rattle.postscript_write.specs.Closure.{Grow}
use Rattle.postscript_write.proofs.closure.reach_all.Given as goal

abbrev pub invariant-loop-i : goal.invariant-loop-i
invariant-loop-i l =
    Grow l.fn.marks.items l.fn.glyphs.items
    (take l.i l.added) l.marks.items l.glyphs.items × ((k : ℕ) → k < l.i → get_or l.added k 0 < length l.fn.marks.items)

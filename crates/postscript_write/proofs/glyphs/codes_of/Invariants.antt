use Rattle.std.proofs.Common.{◌≡◌, ℕ, ◌<◌, [], get_or, length, None}
use Rattle.postscript_type2.specs.Program.Routines.{texts}
use Rattle.postscript_view.specs.Value.{view_shown}
use Rattle.postscript_write.specs.Glyphs.{IsCodeFor}
use Rattle.postscript_write.proofs.glyphs.codes_of.Given as goal

abbrev pub invariant-loop-i : goal.invariant-loop-i
invariant-loop-i l =
    (length l.flats.items ≡ l.i)
    × ((k : ℕ) → k < l.i → IsCodeFor (view_shown l.font) (get_or l.sources k None) (get_or l.numbers k 0)
    (get_or (texts l.flats.items) k []))

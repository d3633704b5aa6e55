use Rattle.std.proofs.Common.{◌<◌, ◌≤◌, ℕ, [], length, get_or}
use Rattle.postscript_type2.specs.Program.Routines.{texts}
use Rattle.postscript_write.proofs.glyphs.long_glyph.Given as goal

-- none so far is too long
abbrev pub invariant-loop-i : goal.invariant-loop-i
invariant-loop-i l = (k : ℕ) → k < l.i → length (get_or (texts l.codes) k []) ≤ 65535

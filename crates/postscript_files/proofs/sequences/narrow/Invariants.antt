use Rattle.std.proofs.Common.{◌≡◌, take}
use Rattle.postscript_files.proofs.sequences.narrow.Given as goal

abbrev pub invariant-loop-i : goal.invariant-loop-i
invariant-loop-i l = l.narrow.items ≡ take l.i l.glyphs

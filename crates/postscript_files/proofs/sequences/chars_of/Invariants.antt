use Rattle.std.proofs.Common.{◌≡◌, take}
use Rattle.std.specs.Prelude.{map}
use Rattle.postscript_files.specs.Sequences.{char_of}
use Rattle.postscript_files.proofs.sequences.chars_of.Given as goal

abbrev pub invariant-loop-pair : goal.invariant-loop-pair
invariant-loop-pair l = l.chars.items ≡ map char_of (take l.pair-index l.pairs)

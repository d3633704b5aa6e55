use Rattle.std.proofs.Common.{◌≡◌, take}
use Rattle.std.specs.List.{filter}
use Rattle.postscript_shaping.specs.Computing.{is_long}
use Rattle.postscript_shaping.proofs.composing.long_of.Given as goal

abbrev pub invariant-loop-char : goal.invariant-loop-char
invariant-loop-char l = l.long.items ≡ filter is_long (take l.char-index l.chars)

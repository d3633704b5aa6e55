use Rattle.std.proofs.Common.{◌≡◌, take}
use Rattle.postscript_write.specs.Renumbered.{new_identifiers}
use Rattle.postscript_write.proofs.char_sets.new_identifiers.Given as goal

abbrev pub invariant-loop-i : goal.invariant-loop-i
invariant-loop-i l = l.new.items ≡ new_identifiers l.strings (take l.i l.identifiers)

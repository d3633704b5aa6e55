use Rattle.std.proofs.Common.{◌≡◌, ◌++◌, take}
use Rattle.std.specs.Prelude.{flat_map}
use Rattle.postscript_write.specs.Texts.{number_text}
use Rattle.postscript_write.proofs.char_sets.put_names.Given as goal

abbrev pub invariant-loop-i : goal.invariant-loop-i
invariant-loop-i l = l.out.items ≡ l.fn.out.items ++ (number_text 1 0 ++ flat_map (number_text 2) (take l.i l.identifiers))

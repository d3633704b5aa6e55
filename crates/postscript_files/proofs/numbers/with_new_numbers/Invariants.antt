use Rattle.std.proofs.Common.{◌≡◌, take}
use Rattle.std.specs.Prelude.{map}
use Rattle.postscript_files.specs.Renumbered.{renumber}
use Rattle.postscript_files.proofs.numbers.with_new_numbers.Given as goal

abbrev pub invariant-loop-pair : goal.invariant-loop-pair
invariant-loop-pair l = l.all.items ≡ map (renumber l.numbers) (take l.pair-index l.pairs)

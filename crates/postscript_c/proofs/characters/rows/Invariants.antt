use Rattle.std.proofs.Common.{◌≡◌, map, take}
use Rattle.postscript_c.specs.Characters.{row}
use Rattle.postscript_c.proofs.characters.rows.Given as goal

abbrev pub invariant-loop-pair : goal.invariant-loop-pair
invariant-loop-pair l = l.rows.items ≡ map row (take l.pair-index l.all)

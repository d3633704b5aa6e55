use Rattle.std.proofs.Common.{◌≡◌, map, take}
use Rattle.postscript_write.proofs.dictionaries.operators_of.Given as goal

abbrev pub invariant-loop-place : goal.invariant-loop-place
invariant-loop-place l = l.operators.items ≡ map (λ place. place.operator) (take l.place-index l.places)

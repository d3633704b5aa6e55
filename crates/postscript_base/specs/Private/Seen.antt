-- Values that contracts see unchanged.
use Rattle.std.proofs.Common.{◌≡◌, List, map, sym}
use Rattle.std.proofs.lemmas.List.{map-id}
use Rattle.postscript_base.specs.Tape.Outcome.{same}

-- a list of them is unchanged too
pub each_as_it_is : {A : Type 0} (xs : List A) → same xs ≡ map same xs
each_as_it_is xs = sym (map-id xs)

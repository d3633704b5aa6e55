-- Known values of the standard strings.
use Rattle.std.proofs.Common.{◌≡◌, refl, map, [], ◌∷◌, Some, None, length}
use Rattle.std.specs.Prelude.{codes}
use Rattle.postscript_compact1.specs.StandardStrings.{standard_strings, standard_string}

how_many : length standard_strings ≡ 391
how_many = refl

known : map standard_string (0 ∷ 175 ∷ 390 ∷ 391 ∷ []) ≡ Some (codes ".notdef") ∷ Some (codes "Aring") ∷ Some (codes "Semibold") ∷ None ∷ []
known = refl

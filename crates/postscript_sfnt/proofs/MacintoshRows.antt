-- Known values of the standard Macintosh names.
use Rattle.std.proofs.Common.{◌≡◌, refl, map, [], ◌∷◌, Some, None, length}
use Rattle.std.specs.Prelude.{codes}
use Rattle.postscript_sfnt.specs.MacintoshNames.{macintosh_names, macintosh_name}

how_many : length macintosh_names ≡ 258
how_many = refl

known : map macintosh_name (0 ∷ 36 ∷ 257 ∷ 258 ∷ []) ≡ Some (codes ".notdef") ∷ Some (codes "A") ∷ Some (codes "dcroat") ∷ None ∷ []
known = refl

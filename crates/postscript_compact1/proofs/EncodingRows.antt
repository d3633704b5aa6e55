-- Known values of the encodings.
use Rattle.std.proofs.Common.{◌≡◌, refl, ℕ, map, [], ◌∷◌, Some, None, true}
use Rattle.postscript_compact1.specs.Computed.Encodings.{identifier_of, runs_of, are_standard}
use Rattle.postscript_compact1.specs.declared.encoding.Encoding.{Encoding}
use Rattle.postscript_compact1.specs.declared.encoding.Encoding.TheVariants.{Standard, Expert}

known : map (λ (row : Encoding × ℕ). identifier_of row.0 row.1)
    ((Standard, 42) ∷ (Standard, 255) ∷ (Expert, 255) ∷ (Standard, 256) ∷ []) ≡ Some 11 ∷ Some 0 ∷ Some 378 ∷ None ∷ []
unfolding identifier_of
known = refl

standard : map (λ (encoding : Encoding). are_standard (runs_of encoding)) (Standard ∷ Expert ∷ []) ≡ true ∷ true ∷ []
standard = refl

-- The first stroke of a pattern.
use Rattle.std.proofs.Common.{◌≡◌, ℤ, List, ◌∷◌, refl}
use Rattle.postscript_drawing.specs.declared.stroke.Stroke.TheVariants.{Curve}
use Rattle.postscript_drawing.specs.declared.stroke.Vector.{Vector}
use Rattle.postscript_drawing.specs.Strokes.{curves}

pub curves-front : (a b c : Vector) (xs ys zs rest : List ℤ) → xs ≡ a.dx ∷ a.dy ∷ ys → ys ≡ b.dx ∷ b.dy ∷ zs → zs ≡ c.dx ∷ c.dy ∷ rest
    → curves xs ≡ Curve a b c ∷ curves rest
curves-front a b c xs ys zs rest p q r = rw p (rw q (rw r refl))

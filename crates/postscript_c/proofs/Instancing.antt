-- Coordinates of an instance along one axis after the other.
use Rattle.std.proofs.Common.{◌≡◌, refl, ℕ, ◌+◌, ◌*◌, ℤ, List, [], ◌∷◌, ◌++◌, arith}
use Rattle.postscript_c.proofs.Placing.{added}
use Rattle.postscript_c.specs.Instances.{AreCoordinatesOf}
use Rattle.postscript_variation.specs.Axes.{fixed_at}
use Rattle.postscript_variation.specs.LentAxes.{bytes_of, instance_place}
use Rattle.postscript_variation.specs.declared.axes.Axes.{Axes}

pub no_axes : (axes : Axes) (i : ℕ) → AreCoordinatesOf axes i 0 []
no_axes axes i = record { counted = refl; each = λ axis h. absurd (omega (arith, h)) }

pub one_axis : (axes : Axes) (i n : ℕ) (xs : List ℤ) (x : ℤ) → AreCoordinatesOf axes i n xs → x ≡ fixed_at (bytes_of axes)
    (instance_place axes i + 4 + n * 4) →
    AreCoordinatesOf axes i (n + 1) (xs ++ x ∷ [])
one_axis axes i n xs x are is =
    let both = added (λ axis. fixed_at (bytes_of axes) (instance_place axes i + 4 + axis * 4)) n xs x are.counted are.each is in
    record { counted = both.0; each = both.1 }

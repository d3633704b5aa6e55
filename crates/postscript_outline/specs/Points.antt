-- Points.
use Rattle.std.specs.Prelude.{ℤ}
use Rattle.postscript_outline.specs.declared.point.Point.{Point}

abbrev pub point : (x y : ℤ) → Point
point x y = record { x = x; y = y }

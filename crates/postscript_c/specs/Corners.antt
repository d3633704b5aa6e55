-- The corners of bounds, as vectors.
use Rattle.std.specs.Coded.{Coded, Coded-set, code_by, coded×, coded_ℤ, coded_list, ×_prop, Unit-prop}
use Rattle.std.specs.Int.{w32}
use Rattle.std.specs.Prelude.{◌≡◌, refl, List, [], ◌∷◌, ℤ, pos, negsuc, Option, Some, None, FitsSigned}
use Rattle.postscript_c.specs.declared.corners.Corners.{Corners}
use Rattle.postscript_outline.specs.declared.bounds.Bounds.{Bounds}
use Rattle.postscript_outline.specs.declared.point.Point.{Point}
use mir.ValLaws.{SFits-prop}

-- x, then y
abbrev pub lanes : Point → List ℤ
lanes p = p.x ∷ p.y ∷ []

-- without bounds, the lower corner has the greatest coordinates that fit into a lane, and the upper one the least
abbrev pub corners : Option Bounds → Corners
corners None = record { low = pos 2147483647 ∷ pos 2147483647 ∷ []; high = negsuc 2147483647 ∷ negsuc 2147483647 ∷ [] }
corners (Some b) = record { low = lanes b.low; high = lanes b.high }

-- each coordinate fits into a lane
abbrev pub FitsLanes : Point → Type 0
FitsLanes p = FitsSigned w32 p.x × FitsSigned w32 p.y

abbrev pub FitLanes : Option Bounds → Type 0
FitLanes None = Unit {0}
FitLanes (Some b) = FitsLanes b.low × FitsLanes b.high

abbrev pub AreCornersOf : Option Bounds → Corners → Type 0
AreCornersOf bounds c = (c ≡ corners bounds) × FitLanes bounds

abbrev corners_code : Coded Corners
corners_code =
    code_by (List ℤ × List ℤ) (coded× (coded_list coded_ℤ) (coded_list coded_ℤ)) (λ c. (c.low, c.high))
    (λ t. record { low = t.0; high = t.1 }) (λ _. refl)

FitsLanes-prop : (p : Point) → IsProp (FitsLanes p)
FitsLanes-prop p = ×_prop (SFits-prop w32 p.x) (SFits-prop w32 p.y)

FitLanes-prop : (bounds : Option Bounds) → IsProp (FitLanes bounds)
FitLanes-prop None = Unit-prop
FitLanes-prop (Some b) = ×_prop (FitsLanes-prop b.low) (FitsLanes-prop b.high)

pub AreCornersOf-prop : (bounds : Option Bounds) (c : Corners) → IsProp (AreCornersOf bounds c)
AreCornersOf-prop bounds c = ×_prop (Coded-set corners_code c (corners bounds)) (FitLanes-prop bounds)

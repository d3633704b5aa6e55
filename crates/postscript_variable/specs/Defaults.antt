-- Blends at a location where all scalars are 0, as at the default location of a font.
use Rattle.std.specs.Prelude.{◌≡◌, ℕ, ℤ, List, [], ◌∷◌, Ok}
use Rattle.postscript_type2.specs.Program.StackRules.{IsHeld}
use Rattle.postscript_variable.specs.Blending.{values}

-- all scalars are 0
abbrev pub AreZero : (scalars : List ℕ) → Type 0
AreZero [] = Unit {0}
AreZero (scalar ∷ scalars) = (scalar ≡ 0) × AreZero scalars

-- the numbers fit into 32 bits
abbrev pub AreHeld : List ℤ → Type 0
AreHeld [] = Unit {0}
AreHeld (num ∷ nums) = IsHeld num × AreHeld nums

-- A law of the definitions: the blended values are then the defaults, whatever the deltas are.
abbrev pub DefaultsStay : Type 0
DefaultsStay = (scalars : List ℕ) (nums deltas : List ℤ) → AreZero scalars → AreHeld nums → values nums deltas scalars ≡ Ok nums

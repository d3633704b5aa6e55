-- Charstrings in whole units. Each point is rounded to the nearest whole units, and strokes join the rounded points (Technical Note 5177,
-- "Path Construction Operators", "Hint Operators").
use Rattle.std.specs.Prelude.{◌≡◌, ℤ, pos, ◌+ℤ◌, ℕ, List, [], ◌∷◌, map, drop, Option}
use Rattle.postscript_drawing.specs.Operators.{strokes}
use Rattle.postscript_drawing.specs.Using.{used}
use Rattle.postscript_outline.specs.Points.{point}
use Rattle.postscript_outline.specs.declared.point.Point.{Point}
use Rattle.postscript_type2.specs.declared.operation.Operator.{Operator}
use Rattle.postscript_type2.specs.declared.operation.Operator.TheVariants.{HFlex, HFlex1, Flex, Flex1}
use Rattle.postscript_type2.specs.Number.{whole}
use Rattle.postscript_type2.specs.Operation.Kinds.{kind}
use Rattle.postscript_type2.specs.Program.Routines.{Lists}
use Rattle.postscript_variable.specs.declared.charstring.Charstring.{Charstring}
use Rattle.postscript_variable.specs.Sayings.{Phrase}
use Rattle.postscript_variable.specs.Told.{Says}
use Rattle.postscript_instance.specs.Pieces.{AreInPieces}
use Rattle.postscript_instance.specs.Refusals.{IsHint}
use Rattle.postscript_instance.specs.Statics.{SaysSo, Fits, BearsWidth}
use Rattle.postscript_instance.specs.Nearest.{nearest, rounded_strokes, behind, AreInRange}

-- the edges of stems: each operand is the distance from the edge before it, and the first counts from 0 ("Hint Operators")
abbrev pub edges_from : ℤ → List ℤ → List ℤ
edges_from at [] = []
edges_from at (d ∷ ds) = (at +ℤ d) ∷ edges_from (at +ℤ d) ds

abbrev pub edges_of : List ℤ → List ℤ
edges_of ds = edges_from (pos 0) ds

-- whole numbers, in 16.16 bits
abbrev pub AreWhole : List ℤ → Type 0
AreWhole [] = Unit {0}
AreWhole (num ∷ nums) = ((n : ℤ) × (num ≡ whole n)) × AreWhole nums

-- each number of the operations is whole, except the depth of a flex
abbrev pub AreInUnits : List Phrase → Type 0
AreInUnits [] = Unit {0}
AreInUnits (x ∷ xs) = AreWhole x.stems × AreWhole (used x.operator x.operands) × AreInUnits xs

-- every flex operator becomes `flex`, which has all coordinates, and every other operator is unchanged
abbrev pub rounded_operator : Operator → Operator
rounded_operator HFlex = Flex
rounded_operator HFlex1 = Flex
rounded_operator Flex1 = Flex
rounded_operator op = op

-- the depth of a flex is unchanged, and is 50 if the operator has none
abbrev pub depth_of : Operator → List ℤ → List ℤ
depth_of Flex xs = drop 12 xs
depth_of HFlex xs = whole (pos 50) ∷ []
depth_of HFlex1 xs = whole (pos 50) ∷ []
depth_of Flex1 xs = whole (pos 50) ∷ []
depth_of op xs = []

-- an operation from a point, and the same operation in whole units
pub record IsRounded (p : Point) (x y : Phrase) : Type 0 where
  pub operator : y.operator ≡ rounded_operator x.operator
  pub drawn : strokes y.operator y.operands ≡ rounded_strokes p (strokes x.operator x.operands)
  pub in_range : AreInRange p (strokes x.operator x.operands)
  pub depth : y.operator ≡ Flex → drop 12 y.operands ≡ depth_of x.operator x.operands
  pub edges : IsHint (kind x.operator) → edges_of y.operands ≡ map nearest (edges_of x.operands)
  pub stems : edges_of y.stems ≡ map nearest (edges_of x.stems)
  pub mask : y.mask ≡ x.mask

abbrev pub AreRounded : Point → List Phrase → List Phrase → Type 0
AreRounded p [] [] = Unit {0}
AreRounded p (x ∷ xs) (y ∷ ys) = IsRounded p x y × AreRounded (behind p (strokes x.operator x.operands)) xs ys
AreRounded p xs ys = ⊥

abbrev pub origin : Point
origin = point (pos 0) (pos 0)

-- A CFF2 charstring, a width, and a Type 2 code that does the same in whole units. It calls no subroutines, so it does so with any. Path
-- operators that do not fit on a stack are in pieces.
pub record IsRoundedOf (charstring : Charstring) (width : Option ℤ) (code : List ℕ) : Type 0 where
  pub says : List Phrase
  pub said : Says charstring says
  pub near : List Phrase
  pub rounded : AreRounded origin says near
  pub written : List Phrase
  pub in_pieces : AreInPieces near written
  pub units : AreInUnits written
  pub does : (lists : Lists) → SaysSo lists code width written
  pub fits : Fits width written
  pub bears : BearsWidth width written

-- DICTs that have each operator once, and ROS first (Technical Note 5176, "DICT Data", section 18).
use Rattle.std.specs.Prelude.{◌≡◌, ◌≢◌, ℕ, List, [], ◌∷◌, length, map, All, None}
use Rattle.std.specs.List.{Contains}
use Rattle.std.specs.FinMap.{get}
use Rattle.postscript_base.specs.Compact1.Dictionary.{Dictionary}
use Rattle.postscript_base.specs.Compact1.DictionaryLaw.{OperationsAt}
use Rattle.postscript_base.specs.Compact1.Operation.{Operation}
use Rattle.postscript_base.specs.declared.compact1.operator.Operator.{Operator}
use Rattle.postscript_base.specs.declared.compact1.operator.Operator.TheVariants.{FDArray, ROS}
use Rattle.postscript_view.specs.Cids.{IsCidKeyed}
use Rattle.postscript_view.specs.Contents.{View}
use Rattle.postscript_view.specs.Layout.{IsLaidOut, NamesIndex}
use Rattle.postscript_write.specs.LeftOut.{operators_in}
use Rattle.postscript_write.specs.declared.dictionaries.Place.{Place}

-- no operator occurs twice
abbrev pub AreDistinct : List Operator → Type 0
AreDistinct [] = Unit {0}
AreDistinct (operator ∷ operators) = (Contains operators operator → ⊥) × AreDistinct operators

-- ROS is the first operator, or does not occur
abbrev pub HasNoLaterRos : List Operator → Type 0
HasNoLaterRos [] = Unit {0}
HasNoLaterRos (operator ∷ operators) = Contains operators ROS → ⊥

-- bytes are whole operations, whose operators have a property
abbrev pub AreOperations : (List Operator → Type 0) → (text : List ℕ) → Type 0
AreOperations P text = (operations : List Operation) × OperationsAt text 0 operations (length text) × P (operators_in operations)

-- no operator occurs twice in the bytes
abbrev pub IsToldOnce : List ℕ → Type 0
IsToldOnce = AreOperations AreDistinct

-- ROS does not occur after the first operator
abbrev pub TellsRosFirst : List ℕ → Type 0
TellsRosFirst = AreOperations HasNoLaterRos

-- A DICT with places: if no two places have the same operator, then no operator occurs twice in the DICT. If no place is that of ROS, and
-- ROS was first in the old DICT, it is first in the new one.
pub record KeepsOrder (text : List ℕ) (places : List Place) (out : List ℕ) : Type 0 where
  pub once : AreDistinct (map (λ place. place.operator) places) → IsToldOnce out
  pub ros : (Contains (map (λ place. place.operator) places) ROS → ⊥) → TellsRosFirst text → TellsRosFirst out

-- A DICT lacks some operators other than ROS, and has the same operands for all other operators.
pub record IsMoved (left_out : List Operator) (old new : Dictionary) : Type 0 where
  pub gone : (operator : Operator) → Contains left_out operator → operator ≢ ROS → get new operator ≡ None
  pub stays : (operator : Operator) → (Contains left_out operator → operator ≡ ROS) → get new operator ≡ get old operator

-- A font begins the bytes. No operator occurs twice in its Top DICT, or in a Font DICT of a CID-keyed font.
pub record TellsOnce (flat : List ℕ) : Type 0 where
  pub font : View
  pub laid : IsLaidOut flat 0 font
  pub dictionary : IsToldOnce laid.tables.item
  pub font_dictionaries : IsCidKeyed font.tables.dictionary → (items : List (List ℕ)) →
      NamesIndex flat font.tables.dictionary FDArray items → All IsToldOnce items

-- A font begins the bytes. If its Top DICT has ROS, it is the first operator.
abbrev pub BeginsWithRos : (flat : List ℕ) → Type 0
BeginsWithRos flat = (font : View) × (laid : IsLaidOut flat 0 font) × TellsRosFirst laid.tables.item

-- Operations that do not fit on a stack are split into pieces. Only private contracts and proofs use these names.
use Rattle.std.specs.Prelude.{◌≡◌, ◌⊎◌, ℕ, ◌+◌, ◌%◌, ◌<◌, ◌≤◌, Bool, true, false, List, [], ◌∷◌, length, take, drop}
use Rattle.postscript_type2.specs.declared.operation.Operator.{Operator}
use Rattle.postscript_type2.specs.declared.operation.Operator.TheVariants.{RLineTo, HLineTo, VLineTo, RRCurveTo, RCurveLine, RLineCurve, VVCurveTo, HHCurveTo, VHCurveTo, HVCurveTo}
use Rattle.postscript_variable.specs.Sayings.{Phrase}
use Rattle.postscript_instance.specs.declared.pieces.Piece.{Piece}
use Rattle.postscript_instance.specs.Pieces.{stack_limit}

-- a piece as an operation
abbrev pub said_by : Piece → Phrase
said_by piece = record {
  operator = piece.operator;
  stems = piece.stems.now;
  operands = piece.operands.now;
  mask = piece.mask.now;
}

-- the operators that are split if their operands do not fit on a stack
abbrev pub is_cut : Operator → Bool
is_cut RLineTo = true
is_cut HLineTo = true
is_cut VLineTo = true
is_cut RRCurveTo = true
is_cut RCurveLine = true
is_cut RLineCurve = true
is_cut VVCurveTo = true
is_cut HHCurveTo = true
is_cut VHCurveTo = true
is_cut HVCurveTo = true
is_cut op = false

-- The operator of the first piece, and the number of its operands, which are whole strokes. If strokes alternate between the axes, the rest
-- begins along the same axis. The rest has the line after curves, or the curve after lines.
abbrev pub first_operator : Operator → Operator
first_operator RCurveLine = RRCurveTo
first_operator RLineCurve = RLineTo
first_operator op = op

abbrev pub first_count : Operator → (count : ℕ) → ℕ
first_count HHCurveTo n = 44 + n % 2
first_count VVCurveTo n = 44 + n % 2
first_count HVCurveTo n = 40
first_count VHCurveTo n = 40
first_count RCurveLine n = 42
first_count RLineCurve n = 42
first_count op n = 48

-- the first piece, and the rest
abbrev pub front_of : Phrase → Phrase
front_of x = record {
  operator = first_operator x.operator;
  stems = x.stems;
  operands = take (first_count x.operator (length x.operands)) x.operands;
  mask = [];
}

abbrev pub rest_of : Phrase → Phrase
rest_of x = record {
  operator = x.operator;
  stems = [];
  operands = drop (first_count x.operator (length x.operands)) x.operands;
  mask = x.mask;
}

-- the operation is split, or is not
abbrev pub IsTooLong : Phrase → Type 0
IsTooLong x = (is_cut x.operator ≡ true) × (stack_limit < length x.operands)

abbrev pub IsWhole : Phrase → Type 0
IsWhole x = (is_cut x.operator ≡ false) ⊎ (length x.operands ≤ stack_limit)

-- all operations in pieces
pub data AreCut : List Phrase → List Phrase → Type 0 where
  none : AreCut [] []
  whole : (x : Phrase) (xs written : List Phrase) → IsWhole x → AreCut xs written → AreCut (x ∷ xs) (x ∷ written)
  piece : (x : Phrase) (xs written : List Phrase) → IsTooLong x → AreCut (rest_of x ∷ xs) written → AreCut (x ∷ xs) (front_of x ∷ written)

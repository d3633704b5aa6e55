-- Operations of paths in pieces: one operator is split into several that fit on a stack of Type 2 and draw the same (Technical Note 5177,
-- "Path Construction Operators", Appendix B).
use Rattle.std.specs.Prelude.{◌≡◌, ℕ, ◌<◌, List, [], ◌∷◌, ◌++◌, length}
use Rattle.postscript_drawing.specs.Operators.{strokes}
use Rattle.postscript_drawing.specs.Using.{IsDrawn}
use Rattle.postscript_drawing.specs.declared.stroke.Stroke.{Stroke}
use Rattle.postscript_type2.specs.Operation.Kinds.{kind}
use Rattle.postscript_variable.specs.Sayings.{Phrase}

-- the maximum number of operands on a stack (Appendix B, "Type 2 Charstring Implementation Limits")
abbrev pub stack_limit : ℕ
stack_limit = 48

-- a path operator, with operands only
abbrev pub IsPath : Phrase → Type 0
IsPath x = IsDrawn (kind x.operator) × (x.stems ≡ []) × (x.mask ≡ [])

abbrev pub ArePaths : List Phrase → Type 0
ArePaths [] = Unit {0}
ArePaths (x ∷ xs) = IsPath x × ArePaths xs

-- the strokes of all operations, in order
abbrev pub strokes_of : List Phrase → List Stroke
strokes_of [] = []
strokes_of (x ∷ xs) = strokes x.operator x.operands ++ strokes_of xs

-- path operators that together draw the strokes of one operator
pub record IsInPieces (x : Phrase) (pieces : List Phrase) : Type 0 where
  pub whole : IsPath x
  pub parts : ArePaths pieces
  pub same : strokes_of pieces ≡ strokes x.operator x.operands

-- Operations in which each path operator with too many operands for a stack may be split. All others are unchanged.
pub data AreInPieces : List Phrase → List Phrase → Type 0 where
  nothing : AreInPieces [] []
  as_it_is : (x : Phrase) (xs written : List Phrase) → AreInPieces xs written → AreInPieces (x ∷ xs) (x ∷ written)
  in_pieces : (x : Phrase) (pieces xs written : List Phrase) → stack_limit < length x.operands → IsInPieces x pieces →
      AreInPieces xs written →
      AreInPieces (x ∷ xs) (pieces ++ written)

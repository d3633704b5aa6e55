-- Inlined code while it is written or counted.
use Rattle.std.specs.Prelude.{◌≡◌, ℕ, ◌+◌, ◌-◌, ◌^◌, ◌≤◌, List, [], ◌∷◌, ◌++◌, take, drop, length, min, Option, Some, None}
use Rattle.postscript_type2.specs.declared.operation.Operator.{Operator}
use Rattle.postscript_type2.specs.declared.program.inlined.Piece as code
use Rattle.postscript_type2.specs.declared.program.inlined.Piece.TheVariants as pieces
use Rattle.postscript_type2.specs.declared.program.inlined.Inlined.{Inlined}
use Rattle.postscript_type2.specs.declared.program.inlined.Lengths.{Lengths}
use Rattle.postscript_type2.specs.Program.Inlined.{Piece, Stands, Leaves, before_last, put_before, inlined, text}
use Rattle.postscript_type2.specs.Program.Runs.{Phrase, by}

-- a piece in the code is this piece in contracts
abbrev pub IsPiece : code.Piece → Piece → Type 0
IsPiece (pieces.Stands bytes) p = (op : Operator) × (p ≡ Stands (by op bytes.now))
IsPiece (pieces.Leaves numbers) p = p ≡ Leaves numbers.now

-- the offset of the last number
abbrev pub IsLastOf : List ℕ → Option ℕ → Type 0
IsLastOf numbers (Some place) = (before_last numbers ≡ Some (take place numbers)) × (place ≤ length numbers)
IsLastOf numbers None = before_last numbers ≡ None

-- the whole text, if these phrases are left; numbers after the last operator are put before them
abbrev pub written : Inlined → List Phrase → List ℕ
written inl more = take inl.whole inl.code.items ++ text (put_before (drop inl.whole inl.code.items) (inlined more))

-- its length, from the number of bytes up to the last operator, and the number of all bytes
abbrev pub reaching : (whole len : ℕ) → List Phrase → ℕ
reaching whole len [] = whole
reaching whole len (said ∷ more) = len + length (text (said ∷ more))

abbrev pub counted : Lengths → List Phrase → ℕ
counted lengths more = min (reaching lengths.whole lengths.len (inlined more)) (2 ^ 64 - 1)

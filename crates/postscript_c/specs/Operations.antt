-- The operations of a glyph of a font for C.
use Rattle.std.specs.Prelude.{ℕ, ◌+◌, ◌≤◌, ℤ, pos, List, [], ◌∷◌, length, map, take, drop, Option, Some}
use Rattle.postscript_base.specs.Tape.Outcome.{Reading}
use Rattle.postscript_c.specs.Glyphs.{told_at}
use Rattle.postscript_c.specs.declared.font.PsfFont.{PsfFont}
use Rattle.postscript_c.specs.declared.operations.Listed.{Listed}
use Rattle.postscript_c.specs.declared.operations.PsfOperation.{PsfOperation}
use Rattle.postscript_c.specs.declared.part.PsfPart.{PsfPart}
use Rattle.postscript_type2.specs.Operation.Operators.{operator_of}
use Rattle.postscript_type2.specs.Program.Programs.{Pending}
use Rattle.postscript_type2.specs.Program.Runs.{Answer}
use Rattle.postscript_type2.specs.declared.operation.Operator.{Operator}

-- an operation for C: its operator, its operands, the operands of the stems that a mask implies, and the bytes of the mask
pub record Row : Type 0 where
  pub operator : Option Operator
  pub operands : List ℤ
  pub stems : List ℤ
  pub mask : List ℤ

abbrev pub row_of : Option Operator → (operands stems mask : List ℤ) → Row
row_of op operands stems mask = record { operator = op; operands = operands; stems = stems; mask = mask }

-- `count` numbers from an index on
abbrev pub slice : (place count : ℕ) → List ℤ → List ℤ
slice place count numbers = take count (drop place numbers)

-- all numbers of the operation are inside the list
abbrev pub LiesIn : (numbers : List ℤ) → PsfOperation → Type 0
LiesIn numbers row = row.first + row.count + row.stems + row.mask ≤ length numbers

abbrev pub AllLieIn : (numbers : List ℤ) → List PsfOperation → Type 0
AllLieIn numbers [] = Unit {0}
AllLieIn numbers (row ∷ rows) = LiesIn numbers row × AllLieIn numbers rows

-- The operator of the operation's code, and its own numbers in the list of all. They are its operands, then the stems, and then the mask.
abbrev pub held : (numbers : List ℤ) → PsfOperation → Row
held numbers row = row_of (operator_of row.operator)
    (slice row.first row.count numbers)
    (slice (row.first + row.count) row.stems numbers)
    (slice (row.first + row.count + row.stems) row.mask numbers)

abbrev pub shown : Listed → List Row
shown listed = map (held listed.operands.items) listed.rows.items

-- the same for an operation of a run
abbrev pub answered : Answer → Row
answered answer = row_of (Some answer.operator) answer.operands answer.hints.stems (map pos answer.hints.mask)

-- all operations of a program
abbrev pub listed : Pending → List Row
listed program = map answered program.answers

-- the operations of a glyph, if there is such a glyph, or the error of its run
abbrev pub listed_at : PsfFont → PsfPart → ℕ → Reading (Option (List Row))
listed_at font part glyph = told_at listed font part glyph

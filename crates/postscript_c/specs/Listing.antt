-- The operations of a glyph, for C.
use Rattle.std.specs.Prelude.{◌≡◌, ◌⊎◌, ℕ, ◌<◌, ℤ, pos, List, ◌++◌, length, drop, Option, Some, None, option_map, Result, Ok, Err}
use Rattle.postscript_base.specs.Error.{code}
use Rattle.postscript_base.specs.declared.error.Error.{Error}
use Rattle.postscript_base.specs.Tape.Outcome.{Answers}
use Rattle.postscript_c.specs.Operations.{AllLieIn, listed_at, shown}
use Rattle.postscript_c.specs.Fitting.{KeepsToLimit, TellsTooLong}
use Rattle.postscript_c.specs.Parts.{TellsByPart}
use Rattle.postscript_c.specs.declared.font.PsfFont.{PsfFont}
use Rattle.postscript_c.specs.declared.operations.Listed.{Listed}
use Rattle.postscript_c.specs.declared.operations.PsfOperation.{PsfOperation}
use Rattle.postscript_c.specs.declared.part.PsfPart.{PsfPart}

-- the buffers and the outputs of the caller, at one time
pub record Rooms : Type 0 where
  pub operations : List PsfOperation
  pub count : ℕ
  pub operands : List ℤ
  pub operand_count : ℕ

abbrev pub rooms : List PsfOperation → ℕ → List ℤ → ℕ → Rooms
rooms operations count operands operand_count = record {
  operations = operations;
  count = count;
  operands = operands;
  operand_count =
      operand_count;
}

-- both lists are at the front of their buffers, and the rest of the buffers is unchanged
pub record Handed (listed : Listed) (status : ℤ) (old new : Rooms) : Type 0 where
  pub done : status ≡ pos 0
  pub rows : new.operations ≡ listed.rows.items ++ drop (length listed.rows.items) old.operations
  pub row_operands : new.operands ≡ listed.operands.items ++ drop (length listed.operands.items) old.operands

-- at least one buffer is too small, and both are unchanged
pub record Lacking (status : ℤ) (old new : Rooms) : Type 0 where
  pub refused : status ≡ pos 32
  pub small : (length old.operations < new.count) ⊎ (length old.operands < new.operand_count)
  pub same_rows : new.operations ≡ old.operations
  pub same_operands : new.operands ≡ old.operands

-- the numbers of each operation are inside the list of all numbers
abbrev pub IsInside : Listed → Type 0
IsInside listed = AllLieIn listed.operands.items listed.rows.items

-- the lengths of both lists are stored, and the numbers of each operation are inside the list of all numbers
pub record HandsOperations (listed : Listed) (status : ℤ) (old new : Rooms) : Type 0 where
  pub inside : IsInside listed
  pub counted : new.count ≡ length listed.rows.items
  pub operands_counted : new.operand_count ≡ length listed.operands.items
  pub handed : Handed listed status old new ⊎ Lacking status old new

-- On 0 the operations are stored, and on 32 only their numbers. Otherwise there is no such glyph (31), or the status is an error's, and all
-- outputs are unchanged.
abbrev pub TellsOperations : Result (Option Listed) Error → (status : ℤ) → (old new : Rooms) → Type 0
TellsOperations (Ok (Some listed)) status old new = HandsOperations listed status old new
TellsOperations (Ok None) status old new = (status ≡ pos 31) × (new ≡ old)
TellsOperations (Err e) status old new = (status ≡ pos (code e)) × (new ≡ old)

-- The status and the outputs for the operations of a glyph with a part. Its run is too long, or these are the operations of a run within
-- the limit.
abbrev pub TellsOperationsBy : (bytes : List ℕ) (font : PsfFont) (part : PsfPart) (glyph : ℕ) (status : ℤ) (old new : Rooms) → Type 0
TellsOperationsBy bytes font part glyph status old new =
    TellsTooLong bytes font part glyph status (new ≡ old)
    ⊎ ((answer : Result (Option Listed) Error) × KeepsToLimit bytes font part glyph answer
    × Answers (option_map shown) answer 0 (listed_at font part glyph bytes 0) × TellsOperations answer status old new)

abbrev pub TellsOperationsOf : (bytes : List ℕ) (font : PsfFont) (glyph : ℕ) (status : ℤ) (old new : Rooms) → Type 0
TellsOperationsOf bytes font glyph status old new =
    TellsByPart bytes font glyph status (λ part. TellsOperationsBy bytes font part glyph status old new) (new ≡ old)

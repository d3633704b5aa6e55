-- The outline of a glyph of a variable font, for C.
use Rattle.std.specs.Prelude.{◌≡◌, ◌⊎◌, ℕ, ◌<◌, ℤ, pos, List, ◌++◌, drop, length, map, Result, Ok, Err}
use Rattle.postscript_c.specs.Answers.{undrawn_code}
use Rattle.postscript_c.specs.BoundsTold.{AreZeros, sides_of}
use Rattle.postscript_c.specs.Placed.{unplaced_code}
use Rattle.postscript_c.specs.Segments.{shown}
use Rattle.postscript_c.specs.declared.fill.PsfSegment.{PsfSegment}
use Rattle.postscript_c.specs.declared.tight.PsfBounds.{PsfBounds}
use Rattle.postscript_c.specs.declared.varied.Unvaried.{Unvaried}
use Rattle.postscript_c.specs.declared.varied.Unvaried.TheVariants.{NoTable, BadTable, NoPlace, NoData, FarPlace, Undrawn}
use Rattle.postscript_cff2.specs.declared.error.Error as tables
use Rattle.postscript_cff2.specs.declared.error.Error.TheVariants.{Header, Version, Dictionary, Subroutines, Offset, Index, Select, Store}
use Rattle.postscript_outline.specs.Bounds.{IsBoundsOf, points}
use Rattle.postscript_outline.specs.declared.segment.Segment.{Segment}
use Rattle.postscript_sfnt.specs.declared.file.FontFile.{FontFile}
use Rattle.postscript_c.specs.Varied.{IsVaried}

-- the statuses of errors
abbrev pub table_code : tables.Error → ℕ
table_code Header = 61
table_code Version = 62
table_code (Dictionary place) = 63
table_code (Subroutines place) = 64
table_code (Offset operator) = 65
table_code (Index operator place) = 66
table_code (Select place) = 67
table_code (Store place) = 68

abbrev pub unvaried_code : Unvaried → ℕ
unvaried_code NoTable = 36
unvaried_code (BadTable e) = table_code e
unvaried_code (NoPlace e) = unplaced_code e
unvaried_code (NoData number) = 69
unvaried_code FarPlace = 46
unvaried_code (Undrawn e) = undrawn_code e

-- the buffer and the outputs for an outline, at one time
pub record OutlineRoom : Type 0 where
  pub segments : List PsfSegment
  pub count : ℕ
  pub bounds : PsfBounds

abbrev pub outline_room : List PsfSegment → ℕ → PsfBounds → OutlineRoom
outline_room segments count bounds = record { segments = segments; count = count; bounds = bounds }

-- The count is the number of segments, and the bounds are the bounds of their points. On 0 the segments are at the front of the buffer, and
-- the rest of the buffer is unchanged. On 32 there are more segments than the buffer has space for, and it is unchanged.
pub record HandsOutline (segments : List Segment) (status : ℤ) (old new : OutlineRoom) : Type 0 where
  pub counted : new.count ≡ length segments
  pub bounds : IsBoundsOf (sides_of new.bounds) (points segments)
  pub zeros : AreZeros new.bounds
  pub handed :
      ((status ≡ pos 0) × (new.segments ≡ map shown segments ++ drop new.count old.segments))
      ⊎ ((status ≡ pos 32) × (length old.segments < new.count) × (new.segments ≡ old.segments))

-- The status and the outputs for a result. An error has its status, and all outputs are unchanged.
abbrev pub TellsAnswer : Result (List Segment) Unvaried → (status : ℤ) → (old new : OutlineRoom) → Type 0
TellsAnswer (Ok segments) status old new = HandsOutline segments status old new
TellsAnswer (Err e) status old new = (status ≡ pos (unvaried_code e)) × (new ≡ old)

abbrev pub TellsVariedOf : FontFile → (values : List ℤ) (glyph limit : ℕ) (status : ℤ) (old new : OutlineRoom) → Type 0
TellsVariedOf file values glyph limit status old new =
    (answer : Result (List Segment) Unvaried) × IsVaried file values glyph limit answer × TellsAnswer answer status old new

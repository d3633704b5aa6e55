-- The scalars of a location and the outline of a glyph from them, for C.
use Rattle.std.specs.Prelude.{◌≡◌, ◌⊎◌, ℕ, ℤ, pos, List, Result, Ok, Err}
use Rattle.postscript_c.specs.Answers.{undrawn_code}
use Rattle.postscript_c.specs.Faces.{TellsOfFace}
use Rattle.postscript_c.specs.Located.{AreScalarsAt, HasNoScalarsAt, IsLocated}
use Rattle.postscript_c.specs.Texts.{HandsOver, Lent}
use Rattle.postscript_c.specs.VariedTold.{HandsOutline, OutlineRoom, table_code, unvaried_code}
use Rattle.postscript_c.specs.declared.prepared.Unlocated.{Unlocated}
use Rattle.postscript_c.specs.declared.prepared.Unlocated.TheVariants.{BadTable, NoData, TooFew, Memory, Undrawn}
use Rattle.postscript_c.specs.declared.varied.Unvaried.{Unvaried}
use Rattle.postscript_outline.specs.declared.segment.Segment.{Segment}
use Rattle.postscript_sfnt.specs.declared.file.FontFile.{FontFile}

-- the scalars are stored, or the status says why there are none, and all outputs are unchanged
abbrev pub TellsScalarsOf : FontFile → (values : List ℤ) (limit : ℕ) (status : ℤ) (old new : Lent ℕ) → Type 0
TellsScalarsOf file values limit status old new =
    ((scalars : List ℕ) × AreScalarsAt limit file values scalars × HandsOver scalars status old new)
    ⊎ ((e : Unvaried) × HasNoScalarsAt limit file values e × (status ≡ pos (unvaried_code e)) × (new ≡ old))

abbrev pub TellsScalars : (bytes : List ℕ) (face : ℕ) (values : List ℤ) (limit : ℕ) (status : ℤ) (old new : Lent ℕ) → Type 0
TellsScalars bytes face values limit status old new =
    TellsOfFace bytes face status (λ file. TellsScalarsOf file values limit status old new) (new ≡ old)

-- the statuses of errors
abbrev pub unlocated_code : Unlocated → ℕ
unlocated_code (BadTable e) = table_code e
unlocated_code (NoData number) = 69
unlocated_code TooFew = 69
unlocated_code Memory = 3
unlocated_code (Undrawn e) = undrawn_code e

-- The status and the outputs for a result. An error has its status, and all outputs are unchanged.
abbrev pub TellsOutcome : Result (List Segment) Unlocated → (status : ℤ) → (old new : OutlineRoom) → Type 0
TellsOutcome (Ok segments) status old new = HandsOutline segments status old new
TellsOutcome (Err e) status old new = (status ≡ pos (unlocated_code e)) × (new ≡ old)

abbrev pub TellsLocated : (table scalars : List ℕ) (glyph limit : ℕ) (status : ℤ) (old new : OutlineRoom) → Type 0
TellsLocated table scalars glyph limit status old new =
    (answer : Result (List Segment) Unlocated) × IsLocated table scalars glyph limit answer × TellsOutcome answer status old new

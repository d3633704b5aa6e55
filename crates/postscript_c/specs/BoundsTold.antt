-- The tight bounds of a glyph, for C.
use Rattle.std.specs.Prelude.{◌≡◌, ℕ, ◌==◌, ℤ, pos, if◌then◌else◌, List, Option, Some, None, Result, Ok, Err}
use Rattle.postscript_c.specs.Drawn.{IsDrawnOver}
use Rattle.postscript_c.specs.declared.font.PsfFont.{PsfFont}
use Rattle.postscript_c.specs.declared.part.PsfPart.{PsfPart}
use Rattle.postscript_c.specs.declared.tight.PsfBounds.{PsfBounds}
use Rattle.postscript_c.specs.Glyphs.{Glyph}
use Rattle.postscript_c.specs.Parts.{TellsByPart}
use Rattle.postscript_drawing.specs.declared.error.Error.{Error}
use Rattle.postscript_outline.specs.declared.bounds.Bounds.{Bounds}
use Rattle.postscript_outline.specs.Points.{point}
use Rattle.postscript_outline.specs.Tight.{IsTightBoundsOf, arcs}
use Rattle.postscript_outline.specs.declared.segment.Segment.{Segment}
use Rattle.postscript_outline.specs.declared.tight.TightBounds.{TightBounds}
use Rattle.postscript_c.specs.Answers.{undrawn_code, IsOf}

-- the stored bounds, if there is a point
abbrev pub sides_of : PsfBounds → Option Bounds
sides_of told = if told.has_bounds == 0 then None else Some (record { low = point told.left told.bottom; high = point told.right told.top })

-- the stored bounds are 0 if there is no point
abbrev pub AreZeros : PsfBounds → Type 0
AreZeros told = told.has_bounds ≡ 0 → (told.left ≡ pos 0) × (told.bottom ≡ pos 0) × (told.right ≡ pos 0) × (told.top ≡ pos 0)

-- the tight bounds of the outline of a glyph with a part
abbrev pub IsTracedOver : (bytes : List ℕ) (font : PsfFont) (part : PsfPart) (glyph : ℕ) → Option Bounds → Type 0
IsTracedOver bytes font part glyph bounds = (segments : List Segment)
    × ((width : Option ℤ) × IsDrawnOver bytes font part glyph segments width)
    × IsTightBoundsOf bounds (arcs (point (pos 0) (pos 0)) segments)

-- the status and the output for these bounds, for a missing glyph, and for an error
abbrev pub TellsTraced : Result (Option TightBounds) Error → (status : ℤ) → (old new : PsfBounds) → Type 0
TellsTraced (Ok (Some tight)) status old new = (status ≡ pos 0) × (sides_of new ≡ tight.bounds) × AreZeros new
TellsTraced (Ok None) status old new = (status ≡ pos 31) × (new ≡ old)
TellsTraced (Err e) status old new = (status ≡ pos (undrawn_code e)) × (new ≡ old)

-- The status and the output for the bounds of the lines and curves of a result. An error has its status, and 31 means that there is no such
-- glyph.
abbrev pub TellsBounds : Result (Option Glyph) Error → (status : ℤ) → (old new : PsfBounds) → Type 0
TellsBounds (Ok (Some found)) status old new =
    (status ≡ pos 0) × IsTightBoundsOf (sides_of new) (arcs (point (pos 0) (pos 0)) found.drawn.segments)
    × AreZeros new
TellsBounds (Ok None) status old new = (status ≡ pos 31) × (new ≡ old)
TellsBounds (Err e) status old new = (status ≡ pos (undrawn_code e)) × (new ≡ old)

-- the status and the output for the bounds of a glyph
abbrev pub TellsBoundsOf : (bytes : List ℕ) (font : PsfFont) (glyph : ℕ) (status : ℤ) (old new : PsfBounds) → Type 0
TellsBoundsOf bytes font glyph status old new =
    TellsByPart bytes font glyph status (λ part. (answer : Result (Option Glyph) Error) × IsOf bytes font part glyph answer
    × TellsBounds answer status old new) (new ≡ old)

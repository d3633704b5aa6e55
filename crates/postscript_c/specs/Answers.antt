-- The results of calls for a glyph.
use Rattle.std.specs.Prelude.{◌≡◌, ◌⊎◌, ℕ, ◌<◌, ◌==◌, ℤ, pos, ◌+ℤ◌, if◌then◌else◌, List, ◌++◌, length, drop, map, Option, Some, None, Result, Ok, Err}
use Rattle.std.specs.Int.{saturate_signed, w64}
use Rattle.std.specs.Option.{is_some}
use Rattle.postscript_base.specs.Error.{code}
use Rattle.postscript_base.specs.declared.error.Error.{Error as Cause}
use Rattle.postscript_base.specs.declared.error.Error.TheVariants.{Memory}
use Rattle.postscript_c.specs.Drawn.{HasNone, IsDrawnOver, IsUndrawnOver}
use Rattle.postscript_c.specs.declared.fill.PsfSegment.{PsfSegment}
use Rattle.postscript_c.specs.declared.font.PsfFont.{PsfFont}
use Rattle.postscript_c.specs.declared.part.PsfPart.{PsfPart}
use Rattle.postscript_c.specs.declared.told.PsfGlyph.{PsfGlyph}
use Rattle.postscript_c.specs.Glyphs.{Drawn, Glyph}
use Rattle.postscript_c.specs.Parts.{TellsByPart}
use Rattle.postscript_c.specs.Segments.{shown as segment_shown}
use Rattle.postscript_drawing.specs.declared.error.Error.{Error}
use Rattle.postscript_drawing.specs.declared.error.Error.TheVariants.{Font, Full, TooLong, NoSuchGlyph, NoCode, NoAccents, MissingComponent, NestedAccent}
use Rattle.postscript_outline.specs.declared.bounds.Bounds.{Bounds}
use Rattle.postscript_outline.specs.Bounds.{IsBoundsOf, points}
use Rattle.postscript_outline.specs.Points.{point}

-- the statuses of errors of drawing
abbrev pub undrawn_code : Error → ℕ
undrawn_code (Font cause) = code cause
undrawn_code Full = 3
undrawn_code TooLong = 46
undrawn_code (NoSuchGlyph glyph) = 31
undrawn_code NoCode = 47
undrawn_code NoAccents = 48
undrawn_code (MissingComponent missing) = 49
undrawn_code (NestedAccent nested) = 50

-- the width of a glyph: the default width, or the nominal width plus the width in the charstring, limited to 64 bits
abbrev pub advance : Option ℤ → PsfPart → ℤ
advance None part = part.default_width
advance (Some width) part = saturate_signed w64 (part.nominal_width +ℤ width)

-- the stored bounds, if there is a point
abbrev pub bounds_of : PsfGlyph → Option Bounds
bounds_of told = if told.has_bounds ==
    0 then None else Some (record { low = point told.left told.bottom; high = point told.right told.top })

-- the stored advance and bounds are the glyph's
pub record IsToldOf (drawn : Drawn) (part : PsfPart) (told : PsfGlyph) : Type 0 where
  pub advance : told.advance ≡ advance drawn.width part
  pub bounds : IsBoundsOf (bounds_of told) (points drawn.segments)

-- the stored bounds are 0 if there is no point
abbrev pub HasZeros : PsfGlyph → Type 0
HasZeros told = told.has_bounds ≡ 0 → (told.left ≡ pos 0) × (told.bottom ≡ pos 0) × (told.right ≡ pos 0) × (told.top ≡ pos 0)

-- has_width says whether the charstring has a width
abbrev pub TellsWidth : Drawn → PsfGlyph → Type 0
TellsWidth drawn told = told.has_width ≡ (if is_some drawn.width then 1 else 0)

-- the buffer and the outputs of the caller, at one time
pub record Room : Type 0 where
  pub segments : List PsfSegment
  pub count : ℕ
  pub told : PsfGlyph

abbrev pub room : List PsfSegment → ℕ → PsfGlyph → Room
room segments count told = record { segments = segments; count = count; told = told }

-- The count is the number of segments. On 0 they are at the front of the buffer, and the rest of the buffer is unchanged. On 32 there are
-- more segments than the buffer has space for, and it is unchanged.
pub record Hands (found : Glyph) (status : ℤ) (old new : Room) : Type 0 where
  pub counted : new.count ≡ length found.drawn.segments
  pub tells : IsToldOf found.drawn found.part new.told
  pub zeros : HasZeros new.told
  pub width : TellsWidth found.drawn new.told
  pub handed : ((status ≡ pos 0) × (new.segments ≡ map segment_shown found.drawn.segments ++ drop new.count old.segments))
      ⊎ ((status ≡ pos 32) × (length old.segments < new.count) × (new.segments ≡ old.segments))

-- The status and the outputs for a result. An error has its status, and 31 means that there is no such glyph. In both cases all outputs are
-- unchanged.
abbrev pub Tells : Result (Option Glyph) Error → (status : ℤ) → (old new : Room) → Type 0
Tells (Ok (Some found)) status old new = Hands found status old new
Tells (Ok None) status old new = (status ≡ pos 31) × (new ≡ old)
Tells (Err e) status old new = (status ≡ pos (undrawn_code e)) × (new ≡ old)

-- The result for a glyph with a part. It is the drawn glyph, a `seac` glyph with its components, or that there is no such glyph. Otherwise
-- it is why the glyph is not drawn, which may be `Memory`.
abbrev pub IsOf : (bytes : List ℕ) (font : PsfFont) (part : PsfPart) (glyph : ℕ) → Result (Option Glyph) Error → Type 0
IsOf bytes font part glyph (Ok (Some found)) =
    (found.part ≡ part) × IsDrawnOver bytes font part glyph found.drawn.segments found.drawn.width
IsOf bytes font part glyph (Ok None) = HasNone bytes font part glyph
IsOf bytes font part glyph (Err e) = (e ≡ Font Memory) ⊎ IsUndrawnOver bytes font part glyph e

-- the status and the outputs for the outline of a glyph
abbrev pub TellsOutline : (bytes : List ℕ) (font : PsfFont) (glyph : ℕ) (status : ℤ) (old new : Room) → Type 0
TellsOutline bytes font glyph status old new =
    TellsByPart bytes font glyph status (λ part. (answer : Result (Option Glyph) Error) × IsOf bytes font part glyph answer
    × Tells answer status old new) (new ≡ old)

-- The status and the output for a font. On 0 its numbers are stored. An error has its status, and the output is unchanged.
abbrev pub TellsFont : Result PsfFont Cause → (status : ℤ) → (old new : PsfFont) → Type 0
TellsFont (Ok font) status old new = (status ≡ pos 0) × (new ≡ font)
TellsFont (Err e) status old new = (status ≡ pos (code e)) × (new ≡ old)

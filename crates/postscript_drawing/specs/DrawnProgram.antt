-- Drawing a program into a sink.
use Rattle.std.specs.Prelude.{◌≡◌, ◌⊎◌, ℕ, ℤ, List, [], ◌∷◌, ◌++◌, Option, Result, Ok, Err, IfOk}
use Rattle.postscript_base.specs.RefusalOf.{refusal_of}
use Rattle.postscript_base.specs.declared.error.Error.{Error as Cause}
use Rattle.postscript_base.specs.declared.error.Error.TheVariants as causes
use Rattle.postscript_drawing.specs.declared.error.Error.{Error}
use Rattle.postscript_drawing.specs.declared.error.Error.TheVariants.{Font, Full, TooLong}
use Rattle.postscript_drawing.specs.declared.stroke.Stroke.{Stroke}
use Rattle.postscript_drawing.specs.Drawing.{Drawing, blank_at, closed, drawing}
use Rattle.postscript_drawing.specs.Operators.{strokes}
use Rattle.postscript_drawing.specs.Outcome.{IsFront}
use Rattle.postscript_drawing.specs.Outline.{outlined_at}
use Rattle.postscript_outline.specs.declared.point.Point.{Point}
use Rattle.postscript_outline.specs.declared.segment.Segment.{Segment}
use Rattle.postscript_outline.specs.Sinks.{Receives}
use Rattle.postscript_type2.specs.Program.Limit.{Spends}
use Rattle.postscript_type2.specs.Program.Programs.{Pending}
use Rattle.postscript_type2.specs.Program.Runs.{Answer, End, Phrase, UsedUp, width_by}

-- The rest of a program is drawn from a point: the sink has received the segments, one after another, and this is the width.
pub record DrawsProgram {T : Type 0} (after : T → Segment → T → Type 0) (origin : Point) (old new : T) (width : Option ℤ)
    (pending : Pending) : Type 0 where
  pub segments : List Segment
  pub drawn : outlined_at origin pending.answers pending.end ≡ Ok segments
  pub taken : Receives after old segments new
  pub width_is : width ≡ width_by pending.width pending.answers pending.end

-- The sink has received a prefix of the segments that these operations draw, whatever the end of the run, if none of their coordinates
-- leaves the range.
pub record DrawsFront {T : Type 0} (after : T → Segment → T → Type 0) (origin : Point) (old new : T) (answers : List Answer) : Type 0 where
  pub given : List Segment
  pub front : IfOk (outlined_at origin answers UsedUp) (λ segments. IsFront given segments)
  pub taken : Receives after old given new

-- the strokes of operations, one after another
abbrev pub all_strokes : List Answer → List Stroke
all_strokes [] = []
all_strokes (answer ∷ answers) = strokes answer.operator answer.operands ++ all_strokes answers

-- the segments of a drawing when these strokes are left; if none are left, the contour is also closed
abbrev pub so_far : (rest : List Stroke) → Drawing → List Segment
so_far [] d = (closed d).segments
so_far (stroke ∷ rest) d = d.segments

-- The sink has received a prefix of the segments of the first strokes. These strokes stay in the range, whatever the ones after them do.
pub record DrawsOfFirst {T : Type 0} (after : T → Segment → T → Type 0) (origin : Point) (old new : T) (answers : List Answer) : Type 0 where
  pub first : List Stroke
  pub rest : List Stroke
  pub parts : all_strokes answers ≡ first ++ rest
  pub to : Drawing
  pub draws : drawing first (blank_at origin) ≡ Ok to
  pub given : List Segment
  pub front : IsFront given (so_far rest to)
  pub taken : Receives after old given new

-- Memory runs out, the sink takes no more segments, or the limit is used up.
abbrev pub IsWanting : (left : ℕ) → Error → Type 0
IsWanting left (Font cause) = cause ≡ causes.Memory
IsWanting left Full = Unit {0}
IsWanting left TooLong = left ≡ 0
IsWanting left e = ⊥

-- These operations and this end have no outline from a point: the run fails, or a coordinate leaves the range.
pub record IsUndrawn (origin : Point) (e : Error) (answers : List Answer) (end : End) : Type 0 where
  pub cause : Cause
  pub is : e ≡ Font cause
  pub refused : outlined_at origin answers end ≡ Err (refusal_of cause)

-- why a program is not drawn
abbrev pub IsProgramRefused : (origin : Point) → Pending → (left : ℕ) → Error → Type 0
IsProgramRefused origin pending left e = IsWanting left e ⊎ IsUndrawn origin e pending.answers pending.end

-- The phrases that were run are paid for. These are all phrases if everything is drawn.
abbrev pub IsSpent : (limit : ℕ) → (phrases : List Phrase) → (left : ℕ) → Result (Option ℤ) Error → Type 0
IsSpent limit phrases left (Ok width) = Spends limit phrases left []
IsSpent limit phrases left (Err e) = (rest : List Phrase) × Spends limit phrases left rest

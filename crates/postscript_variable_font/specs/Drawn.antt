-- Drawing of CFF2 charstrings. It is defined like the drawing of a Type 2 charstring with the same operations.
use Rattle.std.specs.Prelude.{◌≡◌, ◌⊎◌, ℕ, pos, List, [], Result, Ok, Err}
use Rattle.postscript_drawing.specs.DrawnProgram.{IsUndrawn, IsWanting}
use Rattle.postscript_drawing.specs.Outline.{outlined_at}
use Rattle.postscript_drawing.specs.declared.error.Error.{Error}
use Rattle.postscript_outline.specs.Points.{point}
use Rattle.postscript_outline.specs.declared.point.Point.{Point}
use Rattle.postscript_outline.specs.declared.segment.Segment.{Segment}
use Rattle.postscript_outline.specs.Sinks.{Receives}
use Rattle.postscript_variable.specs.Limit.{Spends}
use Rattle.postscript_variable.specs.Programs.{Pending}

-- the origin of a glyph
abbrev pub origin : Point
origin = point (pos 0) (pos 0)

-- these are the segments that the operations and the end of a program draw from a point, in order
abbrev pub IsOutlineOf : (origin : Point) → Pending → List Segment → Type 0
IsOutlineOf origin pending segments = outlined_at origin pending.answers pending.end ≡ Ok segments

-- Why drawing fails: out of memory, a full sink or a limit that is used up. Other causes are an error of the run and a coordinate out of
-- range.
abbrev pub IsRefused : (origin : Point) → Pending → (left : ℕ) → Error → Type 0
IsRefused origin pending left e = IsWanting left e ⊎ IsUndrawn origin e pending.answers pending.end

-- The items that were read are paid for. On success these are all items.
abbrev pub IsSpent : {A : Type 0} → (limit : ℕ) → (costs : List ℕ) → (left : ℕ) → Result A Error → Type 0
IsSpent limit costs left (Ok drawn) = Spends limit costs left []
IsSpent limit costs left (Err e) = (rest : List ℕ) × Spends limit costs left rest

-- the sink received segments with this property, in order
pub record Gives {T : Type 0} (after : T → Segment → T → Type 0) (old new : T) (are : List Segment → Type 0) : Type 0 where
  pub segments : List Segment
  pub drawn : are segments
  pub taken : Receives after old segments new

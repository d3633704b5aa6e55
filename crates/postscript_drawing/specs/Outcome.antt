-- The result of drawing: the expected drawing, or the expected error.
use Rattle.std.specs.Prelude.{◌≡◌, ◌⊎◌, Bool, true, false, List, [], ◌∷◌, ◌++◌, length, take, Result, Ok, Err, IfOk, OnErr}
use Rattle.postscript_base.specs.declared.error.Error.{Error}
use Rattle.postscript_base.specs.declared.error.Error.TheVariants as errors
use Rattle.postscript_base.specs.Refusal.{Refusal, overflow}
use Rattle.postscript_base.specs.RefusalOf.{refusal_of}
use Rattle.postscript_drawing.specs.declared.pen.Pen.{Pen}
use Rattle.postscript_outline.specs.declared.segment.Segment.{Segment}
use Rattle.postscript_outline.specs.Sinks.{Receives}
use Rattle.postscript_drawing.specs.declared.stroke.Stroke.{Stroke}
use Rattle.postscript_drawing.specs.declared.undrawn.Undrawn.{Undrawn}
use Rattle.postscript_drawing.specs.declared.undrawn.Undrawn.TheVariants.{Overflow, Full}
use Rattle.postscript_drawing.specs.Drawing.{drawing, Drawing, held}

-- the code returns the expected value or the expected error
abbrev pub Gives : {A : Type 0} → Result A Refusal → Result A Error → Type 0
Gives wanted (Ok value) = wanted ≡ Ok value
Gives wanted (Err e) = wanted ≡ Err (refusal_of e)

-- The code gives the expected drawing or the expected error. Running out of memory may be the error at any time.
abbrev pub Draws : (wanted : Result Drawing Refusal) → Result (Unit {0}) Error → (new : Drawing) → Type 0
Draws wanted (Ok done) new = wanted ≡ Ok new
Draws wanted (Err e) new = (e ≡ errors.Memory) ⊎ (wanted ≡ Err (refusal_of e))

-- the first list is a prefix of the second
abbrev pub IsFront : {A : Type 0} → List A → List A → Type 0
IsFront xs ys = take (length xs) ys ≡ xs

-- The code gives the expected drawing or the expected error. That the sink is full may be the error at any time.
abbrev pub DrawsInto : (wanted : Result Drawing Refusal) → Result (Unit {0}) Undrawn → (new : Drawing) → Type 0
DrawsInto wanted (Ok done) new = wanted ≡ Ok new
DrawsInto wanted (Err Overflow) new = wanted ≡ Err overflow
DrawsInto wanted (Err Full) new = Unit {0}

-- The result of drawing into a sink. On success it has received all segments. On an error it has received a prefix of the expected ones, if
-- there are any.
pub record DrawsTo (wanted : Result Drawing Refusal) (answered : Result (Unit {0}) Undrawn) (new : Drawing) : Type 0 where
  pub exact : DrawsInto wanted answered new
  pub front : OnErr answered (IfOk wanted (λ d. IsFront new.segments d.segments))

-- the sink is full only in a state in which it may be full (`refuses`)
abbrev pub IsFullWhere : {T : Type 0} (refuses : T → Type 0) → Result (Unit {0}) Undrawn → (new : T) → Type 0
IsFullWhere refuses (Err Full) new = refuses new
IsFullWhere refuses answered new = Unit {0}

-- These segments are a prefix of the segments of the first strokes. These strokes stay in the range, whatever the ones after them do.
pub record AreOfFirst (strokes : List Stroke) (from : Drawing) (given : List Segment) : Type 0 where
  pub first : List Stroke
  pub rest : List Stroke
  pub parts : strokes ≡ first ++ rest
  pub to : Drawing
  pub draws : drawing first from ≡ Ok to
  pub front : IsFront given to.segments

-- On an error these segments have a property. If the sink is full, they also have it with one more, which the sink did not take.
abbrev pub OnStop : Result (Unit {0}) Undrawn → (given : List Segment) → (List Segment → Type 0) → Type 0
OnStop (Ok done) given Holds = Unit {0}
OnStop (Err Overflow) given Holds = Holds given
OnStop (Err Full) given Holds = (next : Segment) × Holds (given ++ next ∷ [])

-- The states of a sink, each with whether it was full: it receives segments until it does not take one, which leaves its state unchanged.
abbrev pub OrFull : {T : Type 0} (after : T → Segment → T → Type 0) → T × Bool → Segment → T × Bool → Type 0
OrFull after (old, false) segment (new, false) = after old segment new
OrFull after (old, false) segment (new, true) = new ≡ old
OrFull after (old, true) segment new = ⊥

-- A pen draws strokes from its current point into a sink, which receives the segments one after another.
pub record DrawsStrokes {T : Type 0} (after : T → Segment → T → Type 0) (refuses : T → Type 0) (strokes : List Stroke) (pen : Pen) (old : T)
    (answered : Result (Unit {0}) Undrawn) (pen' : Pen) (new : T) : Type 0 where
  pub given : List Segment
  pub draws : DrawsTo (drawing strokes (held pen [])) answered (held pen' given)
  pub of_first : OnStop answered given (AreOfFirst strokes (held pen []))
  pub taken : Receives after old given new
  pub full : IsFullWhere refuses answered new

-- What the operations of a program draw, one after another, and its end.
use Rattle.std.proofs.lemmas.List.{append-nil}
use Rattle.std.proofs.Common.{◌≡◌, ◌⊎◌, inl, inr, ℕ, ℤ, Bool, true, false, List, [], ◌∷◌, ◌++◌, Option, Result, Ok, Err, IfOk, IfErr, OnErr, refl, sym, ap, subst, ◌∙◌}
use Rattle.std.specs.Prelude.{IsErrAnd}
use Rattle.postscript_base.specs.Refusal.{Refusal}
use Rattle.postscript_base.specs.RefusalOf.{refusal_of}
use Rattle.postscript_base.specs.declared.error.Error.{Error as Cause}
use Rattle.postscript_base.specs.declared.error.Error.TheVariants as causes
use Rattle.postscript_outline.specs.declared.point.Point.{Point}
use Rattle.postscript_outline.specs.declared.segment.Segment.{Segment}
use Rattle.postscript_outline.specs.Sinks.{Receives}
use Rattle.postscript_outline.proofs.Receiving.{received-both}
use Rattle.postscript_outline.specs.declared.segment.Segment.TheVariants.{Close}
use Rattle.postscript_drawing.specs.declared.error.Error.{Error}
use Rattle.postscript_drawing.specs.declared.error.Error.TheVariants as errors
use Rattle.postscript_drawing.specs.declared.pen.Pen.{Pen}
use Rattle.postscript_drawing.specs.declared.stroke.Stroke.{Stroke}
use Rattle.postscript_drawing.specs.declared.undrawn.Undrawn.{Undrawn}
use Rattle.postscript_drawing.specs.declared.undrawn.Undrawn.TheVariants.{Overflow, Full}
use Rattle.postscript_drawing.specs.DrawnProgram.{DrawsFront, DrawsOfFirst, IsUndrawn, IsWanting, all_strokes, so_far}
use Rattle.postscript_drawing.specs.Drawing.{Drawing, ◌>>=◌, blank_at, closed, closing, drawing, held}
use Rattle.postscript_drawing.specs.Outcome.{AreOfFirst, DrawsStrokes, IsFront, OnStop, OrFull}
use Rattle.postscript_drawing.specs.Operators.{strokes}
use Rattle.postscript_drawing.specs.Outline.{drawing_of, finished, outlined_at}
use Rattle.postscript_drawing.specs.Undrawn.{error_of}
use Rattle.postscript_drawing.proofs.DrawsLaws.{SoFar, closing-open, so_all}
use Rattle.postscript_drawing.proofs.Filling.{received-full}
use Rattle.postscript_drawing.proofs.GivenLaws.{drawing-append, drawing-grows, front-of, front-through, front-trans}
use Rattle.postscript_type2.specs.declared.program.within.Within.{Within}
use Rattle.postscript_type2.specs.declared.program.within.Within.TheVariants.{End as AtEnd}
use Rattle.postscript_type2.specs.Program.Programs.{IsLastWidth, Pending}
use Rattle.postscript_type2.specs.Program.Runs.{Answer, End, Fault, Finished, Returned, UsedUp}
use Rattle.postscript_type2.specs.Program.Within.{IsHeadWithin, StepsWithin}

-- a pen at the origin
abbrev pub pen_at : Point → Pen
pen_at origin = record { at = origin; is_open = false }

-- the strokes of all operations
abbrev pub strokes_of : List Answer → List Stroke
strokes_of answers = all_strokes answers

then-all : (r : Result Drawing Refusal) (all next : Drawing → Result Drawing Refusal) → ((d : Drawing) → all d ≡ next d) →
    r >>= all ≡ r >>= next
then-all (Ok d) all next same = same d
then-all (Err e) all next same = refl

pub all-strokes : (answers : List Answer) (d : Drawing) → drawing_of answers d ≡ drawing (strokes_of answers) d
all-strokes [] d = refl
all-strokes (answer ∷ answers) d =
    then-all (drawing (strokes answer.operator answer.operands) d) (drawing_of answers) (drawing (strokes_of answers)) (all-strokes answers)
    ∙ sym (drawing-append (strokes answer.operator answer.operands) (strokes_of answers) d)

pub outlined-so : (origin : Point) (answers : List Answer) (end : End) → outlined_at origin answers end ≡ drawing (strokes_of answers)
    (held (pen_at origin) []) >>= finished end
outlined-so origin answers end = ap (λ r. r >>= finished end) (all-strokes answers (blank_at origin))

-- the end of a contour

closed-held : (at : Point) (is_open : Bool) (given : List Segment) →
    let pen : Pen = record { at = at; is_open = is_open } in (closed (held pen given)).segments ≡ given ++ closing pen
closed-held at true given = refl
closed-held at false given = sym (append-nil given)

-- an end that is no fault
pub data IsSound : End → Type 0 where
  used_up : IsSound UsedUp
  returned : (st : _) → IsSound (Returned st)
  by_endchar : (taken : List ℤ) (width : Option ℤ) → IsSound (Finished taken width)

finished-sound : (end : End) (d : Drawing) → IsSound end → finished end d ≡ Ok (closed d).segments
finished-sound UsedUp d sound = refl
finished-sound (Returned st) d sound = refl
finished-sound (Finished taken width) d sound = refl
finished-sound (Fault e) d sound = absurd (none sound)
  where
    none : IsSound (Fault e) → ⊥
    none sound = elim sound [ ]

-- All is drawn, and the contour is ended.
pub drawn-whole : {T : Type 0} {after : T → Segment → T → Type 0} {refuses : T → Type 0} {origin : Point} {old now new : T} (pen : Pen)
    (answers left : List Answer) (end : End) → IsSound end → left ≡ [] →
    SoFar after refuses (strokes_of answers) (strokes_of left) (pen_at origin) old pen now → Receives after now (closing pen) new →
    (segments : List Segment) × (outlined_at origin answers end ≡ Ok segments) × Receives after old segments new
drawn-whole {T} {after} {refuses} {origin} {old} {now} {new} pen answers left end sound none far ended =
    let draws = so_all (ap strokes_of none) far in
    let segments = draws.given ++ closing pen in (
      segments,
      outlined-so origin answers end ∙ ap (λ r. r >>= finished end) draws.draws.exact ∙ finished-sound end (held pen draws.given) sound
          ∙ ap Ok (closed-held pen.at pen.is_open draws.given),
      received-both after old now new draws.given (closing pen) draws.taken ended,
    )

-- a front of what the first strokes draw

closed-grows : (at : Point) (is_open : Bool) (segments : List Segment) →
    IsFront segments (closed (record { place = at; is_open = is_open; segments = segments })).segments
closed-grows at true segments = front-of segments (Close ∷ [])
closed-grows at false segments = subst (IsFront segments) (append-nil segments) (front-of segments [])

front-so : (rest : List Stroke) (d : Drawing) (given : List Segment) → IsFront given d.segments → IsFront given (so_far rest d)
front-so [] d given front = front-trans given d.segments (closed d).segments front (closed-grows d.place d.is_open d.segments)
front-so (s ∷ rest) d given front = front

pub first-so-far : {T : Type 0} {after : T → Segment → T → Type 0} {refuses : T → Type 0} {origin : Point} {old now new : T} {pen : Pen}
    (answers : List Answer) {left : List Stroke} → SoFar after refuses (strokes_of answers) left (pen_at origin) old pen now → new ≡ now →
    DrawsOfFirst after origin old new answers
first-so-far {T} {after} {refuses} {origin} {old} {now} {new} {pen} answers {left} far same =
    let given = far.draws.given in
    record {
      first = far.done;
      rest = left;
      parts = far.parts;
      to = held pen given;
      draws = far.draws.draws.exact;
      given = given;
      front = front-so left (held pen given) given (subst (IsFront given) (append-nil given) (front-of given []));
      taken = subst (Receives after old given) (sym same) far.draws.taken;
    }

-- of first strokes that are so drawn
of-first : {T : Type 0} {after : T → Segment → T → Type 0} {origin : Point} {old new : T} (answers : List Answer) (given : List Segment) →
    AreOfFirst (strokes_of answers) (blank_at origin) given → Receives after old given new → DrawsOfFirst after origin old new answers
of-first answers given are taken = record {
  first = are.first;
  rest = are.rest;
  parts = are.parts;
  to = are.to;
  draws = are.draws;
  given = given;
  front = front-so are.rest are.to given are.front;
  taken = taken;
}

-- without the segment that was not taken
stopped : (e : Undrawn) (strokes : List Stroke) (from : Drawing) (given : List Segment) → OnStop (Err e) given (AreOfFirst strokes from) →
    AreOfFirst strokes from given
stopped Overflow strokes from given stop = stop
stopped Full strokes from given stop = record {
  first = stop.1.first;
  rest = stop.1.rest;
  parts = stop.1.parts;
  to = stop.1.to;
  draws = stop.1.draws;
  front = front-trans given (given ++ stop.0 ∷ []) stop.1.to.segments (front-of given (stop.0 ∷ [])) stop.1.front;
}

pub first-of-refused : {T : Type 0} {after : T → Segment → T → Type 0} {refuses : T → Type 0} {origin : Point} {old new : T} {pen : Pen}
    {e : Undrawn} (answers : List Answer) → DrawsStrokes after refuses (strokes_of answers) (pen_at origin) old (Err e) pen new →
    DrawsOfFirst after origin old new answers
first-of-refused {T} {after} {refuses} {origin} {old} {new} {pen} {e} answers draws =
    of-first answers draws.given (stopped e (strokes_of answers) (blank_at origin) draws.given draws.of_first) draws.taken

-- the segment that was not taken is the next one

pub full-so : {A : Type 0} (r : Result A Error) (e : Error) → IsErrAnd r (λ x. x ≡ e) → r ≡ Err errors.Full → e ≡ errors.Full
full-so (Ok x) e same is = absurd same
full-so (Err x) e same is = cc

pub full-of-refused : {A : Type 0} {T : Type 0} {after : T → Segment → T → Type 0} {refuses : T → Type 0} {origin : Point} {old new : T}
    {pen : Pen} (answers : List Answer) (r : Result A Error) (e : Undrawn) → IsErrAnd r (λ x. x ≡ error_of e) → r ≡ Err errors.Full →
    DrawsStrokes after refuses (strokes_of answers) (pen_at origin) old (Err e) pen new →
    DrawsOfFirst (OrFull after) origin (old, false) (new, true) answers
full-of-refused answers r Overflow same is draws = let other = full-so r (error_of Overflow) same is in absurd (cc)
full-of-refused {A} {T} {after} {refuses} {origin} {old} {new} {pen} answers r Full same is draws =
    of-first answers (draws.given ++ draws.of_first.0 ∷ []) draws.of_first.1
    (received-full after old new draws.given draws.of_first.0 draws.taken)

-- at the end of the program, where a contour is open
pub full-at-end : {T : Type 0} {after : T → Segment → T → Type 0} {refuses : T → Type 0} {origin : Point} {old now new : T} {pen : Pen}
    (answers left : List Answer) → left ≡ [] → SoFar after refuses (strokes_of answers) (strokes_of left) (pen_at origin) old pen now →
    new ≡ now → pen.is_open ≡ true → DrawsOfFirst (OrFull after) origin (old, false) (new, true) answers
full-at-end {T} {after} {refuses} {origin} {old} {now} {new} {pen} answers left none far same opened =
    let draws = so_all (ap strokes_of none) far in
    let given = draws.given in
    let all = given ++ Close ∷ [] in
    let ends = append-nil all ∙ ap (λ v. given ++ v) (sym (closing-open pen opened)) ∙ sym (closed-held pen.at pen.is_open given) in
    record {
      first = strokes_of answers;
      rest = [];
      parts = sym (append-nil (strokes_of answers));
      to = held pen given;
      draws = draws.draws.exact;
      given = all;
      front = subst (IsFront all) ends (front-of all []);
      taken = received-full after old new given Close (subst (Receives after old given) (sym same) draws.taken);
    }

-- a front of what the first strokes draw is one of all that is drawn, if all stay in the range

from-rest : (rest : List Stroke) (to : Drawing) (given : List Segment) → IsFront given (so_far rest to) →
    IfOk (drawing rest to >>= finished UsedUp) (λ segments. IsFront given segments)
from-rest [] to given front = front
from-rest (s ∷ rest) to given front =
    front-through (λ d. d.segments) (λ ss. ss) given (drawing (s ∷ rest) to) (finished UsedUp)
    (front-through (λ d. d.segments) (λ d. d.segments) given (Ok to) (drawing (s ∷ rest)) front (drawing-grows (s ∷ rest)))
    (λ d. closed-grows d.place d.is_open d.segments)

pub front-of-first : {T : Type 0} {after : T → Segment → T → Type 0} {origin : Point} {old new : T} (answers : List Answer) →
    DrawsOfFirst after origin old new answers → DrawsFront after origin old new answers
front-of-first {T} {after} {origin} answers d =
    let all = outlined-so origin answers UsedUp
    ∙ ap (λ r. r >>= finished UsedUp) (ap (λ v. drawing v (blank_at origin)) d.parts ∙ drawing-append d.first d.rest (blank_at origin)
    ∙ ap (λ r. r >>= drawing d.rest) d.draws) in
    record {
      given = d.given;
      front = subst (λ (r : Result (List Segment) Refusal). IfOk r (λ segments. IsFront d.given segments)) (sym all)
          (from-rest d.rest d.to d.given d.front);
      taken = d.taken;
    }

pub front-so-far : {T : Type 0} {after : T → Segment → T → Type 0} {refuses : T → Type 0} {origin : Point} {old now new : T} {pen : Pen}
    (answers : List Answer) {left : List Stroke} → SoFar after refuses (strokes_of answers) left (pen_at origin) old pen now → new ≡ now →
    DrawsFront after origin old new answers
front-so-far answers far same = front-of-first answers (first-so-far answers far same)

-- why a program is not drawn

pub at-fault : {T : Type 0} {after : T → Segment → T → Type 0} {refuses : T → Type 0} {origin : Point} {old now : T} {pen : Pen}
    (answers left : List Answer) (end : End) (cause : Cause) → left ≡ [] → end ≡ Fault (refusal_of cause) →
    SoFar after refuses (strokes_of answers) (strokes_of left) (pen_at origin) old pen now → IsUndrawn origin
    (errors.Font cause) answers end
at-fault {T} {after} {refuses} {origin} {old} {now} {pen} answers left end cause none fault far =
    let draws = so_all (ap strokes_of none) far in
    record {
      cause = cause;
      is = refl;
      refused = outlined-so origin answers end ∙ ap (λ r. r >>= finished end) draws.draws.exact
          ∙ ap (λ v. finished v (held pen draws.given)) fault;
    }

pub stroke-refused : {T : Type 0} {after : T → Segment → T → Type 0} {refuses : T → Type 0} {origin : Point} {old new : T} {pen : Pen}
    (answers : List Answer) (end : End) (left : _) (e : Undrawn) → DrawsStrokes after refuses (strokes_of answers)
    (pen_at origin) old (Err e) pen new →
    IsWanting left (error_of e) ⊎ IsUndrawn origin (error_of e) answers end
stroke-refused {T} {after} {refuses} {origin} answers end left Full draws = inl tt
stroke-refused {T} {after} {refuses} {origin} answers end left Overflow draws =
    inr (record {
      cause = causes.Overflow;
      is = refl;
      refused = outlined-so origin answers end ∙ ap (λ r. r >>= finished end) draws.draws.exact;
    })

-- what a step tells

pub sound-end : (end : End) (width width' : Option ℤ) → IsLastWidth end width width' → IsSound end
sound-end UsedUp width width' last = used_up
sound-end (Returned st) width width' last = absurd last
sound-end (Finished taken own) width width' last = by_endchar taken own
sound-end (Fault e) width width' last = absurd last

pub at-end : (old new : Pending) (limit left : ℕ) {answer : Result Within Cause} → answer ≡ Ok AtEnd →
    StepsWithin old limit answer new left → (old.answers ≡ []) × IsSound old.end
at-end old new limit left is steps =
    let step = subst (λ (r : Result Within Cause). StepsWithin old limit r new left) is steps in
    (step.0.0, sound-end old.end old.width new.width step.0.1)

-- where a step is refused so is the program
pub step-refused : {T : Type 0} {after : T → Segment → T → Type 0} {refuses : T → Type 0} {origin : Point} {old now : T} {pen : Pen}
    (answers : List Answer) (end : End) (wanting : ℕ) (program : Pending) (cause : Cause) {answer : Result Within Cause} →
    answer ≡ Err cause → IsHeadWithin program answer → program.end ≡ end → SoFar after refuses (strokes_of answers)
    (strokes_of program.answers) (pen_at origin) old pen now →
    IsWanting wanting (errors.Font cause) ⊎ IsUndrawn origin (errors.Font cause) answers end
step-refused {T} {after} {refuses} {origin} {old} {now} {pen} answers end wanting program cause is head same far =
    by_head (subst (λ (r : Result Within Cause). IsHeadWithin program r) is head)
  where
    by_head : (cause ≡ causes.Memory) ⊎ ((program.answers ≡ []) × (program.end ≡ Fault (refusal_of cause))) →
        IsWanting wanting (errors.Font cause) ⊎ IsUndrawn origin (errors.Font cause) answers end
    by_head (inl memory) = inl memory
    by_head (inr fault) = inr (at-fault answers program.answers end cause fault.0 (sym same ∙ fault.1) far)

-- a refusal that is passed on
pub on-err : {A E : Type 0} {P : Type 0} (r : Result A E) → P → OnErr r P
on-err (Ok x) holds = tt
on-err (Err e) holds = holds

pub with-err : {A E : Type 0} {P Q : Type 0} (r : Result A E) → (P → Q) → OnErr r P → OnErr r Q
with-err (Ok x) so holds = tt
with-err (Err e) so holds = so holds

pub if-err : {A E : Type 0} (r : Result A E) (e : E) (P : E → Type 0) → IsErrAnd r (λ x. x ≡ e) → P e → IfErr r P
if-err (Ok x) e P same holds = tt
if-err (Err x) e P same holds = subst P (sym same) holds

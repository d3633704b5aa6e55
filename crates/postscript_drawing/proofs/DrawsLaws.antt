-- How drawings into sinks follow one another.
use Rattle.std.proofs.lemmas.List.{append_assoc, append-nil}
use Rattle.std.proofs.Common.{◌≡◌, Bool, true, false, List, [], ◌∷◌, ◌++◌, Result, Ok, Err, IfOk, OnErr, refl, sym, ap, subst, ◌∙◌}
use Rattle.std.specs.Prelude.{IsErrAnd, if◌then◌else◌}
use Rattle.postscript_base.specs.Refusal.{Refusal, overflow}
use Rattle.postscript_outline.specs.declared.point.Point.{Point}
use Rattle.postscript_outline.specs.declared.segment.Segment.{Segment}
use Rattle.postscript_outline.specs.Sinks.{Receives}
use Rattle.postscript_outline.proofs.Receiving.{received-both, received-more}
use Rattle.postscript_outline.specs.declared.segment.Segment.TheVariants.{MoveTo, LineTo, CurveTo, Close}
use Rattle.postscript_drawing.specs.declared.pen.Pen.{Pen}
use Rattle.postscript_drawing.specs.declared.stroke.Stroke.{Stroke}
use Rattle.postscript_drawing.specs.declared.stroke.Stroke.TheVariants.{Move, Line, Curve}
use Rattle.postscript_drawing.specs.declared.stroke.Vector.{Vector}
use Rattle.postscript_drawing.specs.declared.undrawn.Undrawn.{Undrawn}
use Rattle.postscript_drawing.specs.declared.undrawn.Undrawn.TheVariants.{Overflow, Full}
use Rattle.postscript_drawing.specs.Drawing.{Drawing, ◌>>=◌, begun, blank_at, closed, closing, drawing, drawn, held, opening, reached}
use Rattle.postscript_drawing.specs.Outcome.{AreOfFirst, DrawsInto, DrawsStrokes, IsFront, OnStop}
use Rattle.postscript_drawing.proofs.GivenLaws.{drawing-append, drawing-behind, drawing-grows, front-of, front-through, front-under, mapped, prefixed}

-- a refusal that is passed on
pub passed-on : {T : Type 0} {after : T → Segment → T → Type 0} {refuses : T → Type 0} {strokes : List Stroke} {pen pen' : Pen}
    {old new : T} (r : Result (Unit {0}) Undrawn) (e : Undrawn) → IsErrAnd r (λ x. x ≡ e) →
    DrawsStrokes after refuses strokes pen old (Err e) pen' new → DrawsStrokes after refuses strokes pen old r pen' new
passed-on (Ok x) e same draws = absurd same
passed-on {T} {after} {refuses} {strokes} {pen} {pen'} {old} {new} (Err x) e same draws =
    subst (λ x. DrawsStrokes after refuses strokes pen old (Err x) pen' new) (sym same) draws

-- strokes, and others behind them

mapped-into : (xs : List Segment) (wanted : Result Drawing Refusal) (r : Result (Unit {0}) Undrawn) (pen : Pen) (given : List Segment) →
    DrawsInto wanted r (held pen given) → DrawsInto (mapped (prefixed xs) wanted) r (held pen (xs ++ given))
mapped-into xs wanted (Ok done) pen given is = ap (mapped (prefixed xs)) is
mapped-into xs wanted (Err Overflow) pen given is = ap (mapped (prefixed xs)) is
mapped-into xs wanted (Err Full) pen given is = tt

mapped-front : (xs : List Segment) (wanted : Result Drawing Refusal) (r : Result (Unit {0}) Undrawn) (given : List Segment) →
    OnErr r (IfOk wanted (λ d. IsFront given d.segments)) → OnErr r
    (IfOk (mapped (prefixed xs) wanted) (λ d. IsFront (xs ++ given) d.segments))
mapped-front xs wanted (Ok done) given front = tt
mapped-front xs (Ok d) (Err e) given front = front-under xs given d.segments front
mapped-front xs (Err f) (Err e) given front = tt

-- what the others draw, behind the first
both-drawn : (these those : List Stroke) (pen mid : Pen) (given : List Segment) → drawing these (held pen []) ≡ Ok (held mid given) →
    drawing (these ++ those) (held pen []) ≡ mapped (prefixed given) (drawing those (held mid []))
both-drawn these those pen mid given first =
    drawing-append these those (held pen []) ∙ ap (λ r. r >>= drawing those) first ∙ drawing-behind those (held mid given)

both-first : (these those : List Stroke) (pen mid : Pen) (given more : List Segment) → drawing these (held pen []) ≡ Ok (held mid given) →
    AreOfFirst those (held mid []) more → AreOfFirst (these ++ those) (held pen []) (given ++ more)
both-first these those pen mid given more is of_first = record {
  first = these ++ of_first.first;
  rest = of_first.rest;
  parts = ap (λ v. these ++ v) of_first.parts ∙ sym (append_assoc these of_first.first of_first.rest);
  to = prefixed given of_first.to;
  draws = both-drawn these of_first.first pen mid given is ∙ ap (mapped (prefixed given)) of_first.draws;
  front = front-under given more of_first.to.segments of_first.front;
}

both-stop : (these those : List Stroke) (pen mid : Pen) (given more : List Segment) (r : Result (Unit {0}) Undrawn) →
    drawing these (held pen []) ≡ Ok (held mid given) → OnStop r more (AreOfFirst those (held mid [])) →
    OnStop r (given ++ more) (AreOfFirst (these ++ those) (held pen []))
both-stop these those pen mid given more (Ok done) is stop = tt
both-stop these those pen mid given more (Err Overflow) is stop = both-first these those pen mid given more is stop
both-stop these those pen mid given more (Err Full) is stop = (
  stop.0,
  subst (AreOfFirst (these ++ those) (held pen [])) (sym (append_assoc given more (stop.0 ∷ [])))
      (both-first these those pen mid given (more ++ stop.0 ∷ []) is stop.1),
)

pub joined : {T : Type 0} {after : T → Segment → T → Type 0} {refuses : T → Type 0} {these those : List Stroke} {pen mid pen' : Pen}
    {old between new : T} {done : Unit {0}} {r : Result (Unit {0}) Undrawn} →
    DrawsStrokes after refuses these pen old
    (Ok done) mid between → DrawsStrokes after refuses those mid between r pen' new → DrawsStrokes after refuses
    (these ++ those) pen old r pen' new
joined {T} {after} {refuses} {these} {those} {pen} {mid} {pen'} {old} {between} {new} {done} {r} first next =
    let whole = sym (both-drawn these those pen mid first.given first.draws.exact) in
    let wanted = drawing those (held mid []) in
    record {
      given = first.given ++ next.given;
      draws = record {
        exact = subst (λ w. DrawsInto w r (held pen' (first.given ++ next.given))) whole
            (mapped-into first.given wanted r pen' next.given next.draws.exact);
        front = subst (λ w. OnErr r (IfOk w (λ d. IsFront (first.given ++ next.given) d.segments))) whole
            (mapped-front first.given wanted r next.given next.draws.front);
      };
      of_first = both-stop these those pen mid first.given next.given r first.draws.exact next.of_first;
      taken = received-both after old between new first.given next.given first.taken next.taken;
      full = next.full;
    }

-- the first are refused: so are they all
first-into : (these those : List Stroke) (d new : Drawing) (e : Undrawn) → DrawsInto (drawing these d) (Err e) new →
    DrawsInto (drawing (these ++ those) d) (Err e) new
first-into these those d new Full wanted = tt
first-into these those d new Overflow wanted = drawing-append these those d ∙ ap (λ r. r >>= drawing those) wanted

more-behind : (these those : List Stroke) (from : Drawing) (given : List Segment) → AreOfFirst these from given →
    AreOfFirst (these ++ those) from given
more-behind these those from given are = record {
  first = are.first;
  rest = are.rest ++ those;
  parts = ap (λ v. v ++ those) are.parts ∙ append_assoc are.first are.rest those;
  to = are.to;
  draws = are.draws;
  front = are.front;
}

stop-behind : (these those : List Stroke) (from : Drawing) (given : List Segment) (e : Undrawn) →
    OnStop (Err e) given (AreOfFirst these from) → OnStop (Err e) given (AreOfFirst (these ++ those) from)
stop-behind these those from given Overflow stop = more-behind these those from given stop
stop-behind these those from given Full stop = (stop.0, more-behind these those from (given ++ stop.0 ∷ []) stop.1)

pub first-refused : {T : Type 0} {after : T → Segment → T → Type 0} {refuses : T → Type 0} {these : List Stroke} (those : List Stroke)
    {pen pen' : Pen} {old new : T} {e : Undrawn} →
    DrawsStrokes after refuses these pen old (Err e) pen' new → DrawsStrokes after refuses (these ++ those) pen old (Err e) pen' new
first-refused {T} {after} {refuses} {these} those {pen} {pen'} {old} {new} {e} draws =
    let Fronts : Result Drawing Refusal → Type 0 = λ w. IfOk w (λ d. IsFront draws.given d.segments) in
    let grows = front-through (λ d. d.segments) (λ d. d.segments) draws.given (drawing these (held pen []))
    (drawing those) draws.draws.front (drawing-grows those) in
    record {
      given = draws.given;
      draws = record {
        exact = first-into these those (held pen []) (held pen' draws.given) e draws.draws.exact;
        front = subst Fronts (sym (drawing-append these those (held pen []))) grows;
      };
      of_first = stop-behind these those (held pen []) draws.given e draws.of_first;
      taken = draws.taken;
      full = draws.full;
    }

-- Some of the strokes are drawn, and these are left.
pub record SoFar {T : Type 0} (after : T → Segment → T → Type 0) (refuses : T → Type 0) (all left : List Stroke) (pen : Pen) (old : T)
    (pen' : Pen) (new : T) : Type 0 where
  pub done : List Stroke
  pub parts : all ≡ done ++ left
  pub draws : DrawsStrokes after refuses done pen old (Ok tt) pen' new

pub at_first : {T : Type 0} {after : T → Segment → T → Type 0} {refuses : T → Type 0} {all : List Stroke} {pen : Pen} {old : T} →
    SoFar after refuses all all pen old pen old
at_first = record {
  done =
      [];
  parts = refl;
  draws = record { given = []; draws = record { exact = refl; front = tt }; of_first = tt; taken = refl; full = tt };
}

pub so_more : {T : Type 0} {after : T → Segment → T → Type 0} {refuses : T → Type 0} {all left : List Stroke} (these rest : List Stroke)
    {pen mid pen' : Pen} {old between new : T} {done : Unit {0}} → left ≡ these ++ rest →
    SoFar after refuses all left pen old mid between → DrawsStrokes after refuses these mid between
    (Ok done) pen' new → SoFar after refuses all rest pen old pen' new
so_more these rest parts far draws = record {
  done = far.done ++ these;
  parts = far.parts ∙ ap (λ v. far.done ++ v) parts ∙ sym (append_assoc far.done these rest);
  draws = joined far.draws draws;
}

-- those that are left are drawn to their end, or refused
pub so_rest : {T : Type 0} {after : T → Segment → T → Type 0} {refuses : T → Type 0} {all left : List Stroke} {pen mid pen' : Pen}
    {old between new : T} {r : Result (Unit {0}) Undrawn} →
    SoFar after refuses all left pen old mid between → DrawsStrokes after refuses left mid between r pen' new → DrawsStrokes after refuses
    all pen old r pen' new
so_rest {T} {after} {refuses} {all} {left} {pen} {mid} {pen'} {old} {between} {new} {r} far draws =
    subst (λ v. DrawsStrokes after refuses v pen old r pen' new) (sym far.parts) (joined far.draws draws)

pub so_refused : {T : Type 0} {after : T → Segment → T → Type 0} {refuses : T → Type 0} {all left : List Stroke}
    (these rest : List Stroke) {pen mid pen' : Pen} {old between new : T} {e : Undrawn} → left ≡ these ++ rest →
    SoFar after refuses all left pen old mid between → DrawsStrokes after refuses these mid between
    (Err e) pen' new → DrawsStrokes after refuses all pen old (Err e) pen' new
so_refused {T} {after} {refuses} {all} {left} these rest {pen} {mid} {pen'} {old} {between} {new} {e} parts far draws =
    so_rest far (subst (λ v. DrawsStrokes after refuses v mid between (Err e) pen' new) (sym parts) (first-refused rest draws))

pub so_all : {T : Type 0} {after : T → Segment → T → Type 0} {refuses : T → Type 0} {all left : List Stroke} {pen pen' : Pen}
    {old new : T} → left ≡ [] → SoFar after refuses all left pen old pen' new → DrawsStrokes after refuses all pen old (Ok tt) pen' new
so_all {T} {after} {refuses} {all} {left} {pen} {pen'} {old} {new} none far =
    subst (λ v. DrawsStrokes after refuses v pen old (Ok tt) pen' new)
    (sym (far.parts ∙ ap (λ v. far.done ++ v) none ∙ append-nil far.done)) far.draws

-- one stroke

-- nothing is given
none-first : (strokes : List Stroke) (from : Drawing) → AreOfFirst strokes from []
none-first strokes from = record { first = []; rest = strokes; parts = refl; to = from; draws = refl; front = refl }

-- it leaves the range: nothing is given
pub overflows : {T : Type 0} {after : T → Segment → T → Type 0} {refuses : T → Type 0} (s : Stroke) (pen pen' : Pen) {old new : T} →
    drawn s (held pen []) ≡ Err overflow → new ≡ old → DrawsStrokes after refuses (s ∷ []) pen old (Err Overflow) pen' new
overflows s pen pen' out same = record {
  given = [];
  draws = record {
    exact = ap (λ r. r >>= drawing []) out;
    front = by-refusal (drawing (s ∷ []) (held pen [])) (ap (λ r. r >>= drawing []) out);
  };
  of_first = none-first (s ∷ []) (held pen []);
  taken = same;
  full = tt;
}
  where
    by-refusal : (w : Result Drawing Refusal) → w ≡ Err overflow → IfOk w (λ d. IsFront [] d.segments)
    by-refusal (Ok d) is = refl
    by-refusal (Err e) is = tt

-- some of its segments are taken, and the next one is not
pub full_behind : {T : Type 0} {after : T → Segment → T → Type 0} {refuses : T → Type 0} (s : Stroke) (pen pen' : Pen)
    (first : List Segment) (segment : Segment) (more : List Segment) (d : Drawing) {old mid new : T} →
    drawn s (held pen []) ≡ Ok d → d.segments ≡ first ++ segment ∷ more → Receives after old first mid → new ≡ mid → refuses
    new → DrawsStrokes after refuses (s ∷ []) pen old (Err Full) pen' new
full_behind {T} {after} {refuses} s pen pen' first segment more d {old} {mid} {new} is all begun same full = record {
  given = first;
  draws = record {
    exact = tt;
    front = subst (λ (w : Result Drawing Refusal). IfOk w (λ e. IsFront first e.segments)) (sym (ap (λ r. r >>= drawing []) is))
        (subst (IsFront first) (sym all) (front-of first (segment ∷ more)));
  };
  of_first = (
    segment,
    record {
      first = s ∷ [];
      rest = [];
      parts = refl;
      to = d;
      draws = ap (λ r. r >>= drawing []) is;
      front = subst (IsFront (first ++ segment ∷ [])) (append_assoc first (segment ∷ []) more ∙ sym all)
          (front-of (first ++ segment ∷ []) more);
    },
  );
  taken = subst (Receives after old first) (sym same) begun;
  full = full;
}

-- it is drawn
pub stroke_drawn : {T : Type 0} {after : T → Segment → T → Type 0} {refuses : T → Type 0} (s : Stroke) (pen pen' : Pen)
    (first : List Segment) (segment : Segment) (d : Drawing) {done : Unit {0}} {old new : T} (mid : T) →
    drawn s (held pen []) ≡ Ok d → d ≡ held pen'
    (first ++ segment ∷ []) → Receives after old first mid → after mid segment new → DrawsStrokes after refuses (s ∷ []) pen old
    (Ok done) pen' new
stroke_drawn {T} {after} {refuses} s pen pen' first segment d {done} {old} {new} mid is all begun same = record {
  given = first ++ segment ∷ [];
  draws = record { exact = ap (λ r. r >>= drawing []) is ∙ ap Ok all; front = tt };
  of_first = tt;
  taken = received-more after old mid new first segment begun same;
  full = tt;
}

-- what a stroke draws, from a pen that stands there

closed-there : (at : Point) (is_open : Bool) →
    (closed (held (record { at = at; is_open = is_open }) [])).segments ≡ closing (record { at = at; is_open = is_open })
closed-there at true = refl
closed-there at false = refl

begun-there : (at : Point) (is_open : Bool) →
    (begun (held (record { at = at; is_open = is_open }) [])).segments ≡ opening (record { at = at; is_open = is_open })
begun-there at true = refl
begun-there at false = refl

pub closing-open : (pen : Pen) → pen.is_open ≡ true → closing pen ≡ Close ∷ []
closing-open pen is = ap (λ b. if b then Close ∷ [] else []) is

pub opening-closed : (pen : Pen) → pen.is_open ≡ false → opening pen ≡ MoveTo pen.at ∷ []
opening-closed pen is = ap (λ b. if b then [] else MoveTo pen.at ∷ []) is

abbrev pub standing : (at : Point) (segments : List Segment) → Drawing
standing at segments = record { place = at; is_open = true; segments = segments }

pub moved : (pen : Pen) (by : Vector) (p : Point) → reached pen.at by ≡ Ok p → drawn (Move by)
    (held pen []) ≡ Ok (standing p (closing pen ++ MoveTo p ∷ []))
moved pen by p is =
    ap (λ r. r >>= λ q. Ok (standing q ((closed (held pen [])).segments ++ MoveTo q ∷ []))) is
    ∙ ap (λ v. Ok (standing p (v ++ MoveTo p ∷ []))) (closed-there pen.at pen.is_open)

pub moved-out : (pen : Pen) (by : Vector) → reached pen.at by ≡ Err overflow → drawn (Move by) (held pen []) ≡ Err overflow
moved-out pen by is = ap (λ r. r >>= λ q. Ok (standing q ((closed (held pen [])).segments ++ MoveTo q ∷ []))) is

pub lined : (pen : Pen) (by : Vector) (p : Point) → reached pen.at by ≡ Ok p → drawn (Line by)
    (held pen []) ≡ Ok (standing p (opening pen ++ LineTo p ∷ []))
lined pen by p is =
    ap (λ r. r >>= λ q. Ok (standing q ((begun (held pen [])).segments ++ LineTo q ∷ []))) is
    ∙ ap (λ v. Ok (standing p (v ++ LineTo p ∷ []))) (begun-there pen.at pen.is_open)

pub lined-out : (pen : Pen) (by : Vector) → reached pen.at by ≡ Err overflow → drawn (Line by) (held pen []) ≡ Err overflow
lined-out pen by is = ap (λ r. r >>= λ q. Ok (standing q ((begun (held pen [])).segments ++ LineTo q ∷ []))) is

pub curved : (pen : Pen) (a b c : Vector) (p q r : Point) → reached pen.at a ≡ Ok p → reached p b ≡ Ok q → reached q c ≡ Ok r →
    drawn (Curve a b c) (held pen []) ≡ Ok (standing r (opening pen ++ CurveTo p q r ∷ []))
curved pen a b c p q r first second last =
    let to : Point → Point → Point → Result Drawing Refusal = λ p q r.
    Ok (standing r ((begun (held pen [])).segments ++ CurveTo p q r ∷ [])) in
    ap (λ x. x >>= λ p. reached p b >>= λ q. reached q c >>= to p q) first
    ∙ ap (λ x. x >>= λ q. reached q c >>= to p q) second
    ∙ ap (λ x. x >>= to p q) last
    ∙ ap (λ v. Ok (standing r (v ++ CurveTo p q r ∷ []))) (begun-there pen.at pen.is_open)

-- one step leaves the range, or one behind it
out-then : {A B C : Type 0} (r : Result A Refusal) (f : A → Result B Refusal) (g : A → Result C Refusal) →
    ((x : A) → f x ≡ Err overflow → g x ≡ Err overflow) → r >>= f ≡ Err overflow → r >>= g ≡ Err overflow
out-then (Ok x) f g next out = next x out
out-then {A} {B} {C} (Err e) f g next out = ap (λ (x : Result B Refusal). x >>= λ y. Err overflow) out

pub curved-out : (pen : Pen) (a b c : Vector) → drawn (Curve a b c) (blank_at pen.at) ≡ Err overflow →
    drawn (Curve a b c) (held pen []) ≡ Err overflow
curved-out pen a b c out =
    out-then (reached pen.at a) _ _ (λ p. out-then (reached p b) _ _ (λ q. out-then (reached q c) _ _ (λ r is. cc))) out

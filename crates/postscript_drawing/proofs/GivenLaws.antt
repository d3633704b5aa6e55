-- A drawing only grows: strokes draw the same behind whatever was drawn before.
use Rattle.std.proofs.lemmas.List.{append_assoc, append-nil, take-append-drop}
use Rattle.std.proofs.Math.Seq.{take-append_seam}
use Rattle.std.proofs.Common.{◌≡◌, Bool, true, false, List, [], ◌∷◌, ◌++◌, length, drop, Result, Ok, Err, IfOk, refl, sym, ap, subst, ◌∙◌}
use Rattle.postscript_base.specs.Refusal.{Refusal}
use Rattle.postscript_outline.specs.declared.segment.Segment.{Segment}
use Rattle.postscript_outline.specs.declared.segment.Segment.TheVariants.{MoveTo, LineTo, CurveTo, Close}
use Rattle.postscript_outline.specs.declared.point.Point.{Point}
use Rattle.postscript_drawing.specs.declared.stroke.Stroke.{Stroke}
use Rattle.postscript_drawing.specs.declared.stroke.Stroke.TheVariants.{Move, Line, Curve}
use Rattle.postscript_drawing.specs.Drawing.{Drawing, ◌>>=◌, begun, closed, drawing, drawn, extended, reached}
use Rattle.postscript_drawing.specs.Outcome.{IsFront}

-- fronts

pub front-of : {A : Type 0} (xs rest : List A) → IsFront xs (xs ++ rest)
front-of xs rest = take-append_seam xs rest

behind : {A : Type 0} (xs ys : List A) → IsFront xs ys → ys ≡ xs ++ drop (length xs) ys
behind xs ys h = subst (λ v. ys ≡ v ++ drop (length xs) ys) h (sym (take-append-drop (length xs) ys))

pub front-trans : {A : Type 0} (xs ys zs : List A) → IsFront xs ys → IsFront ys zs → IsFront xs zs
front-trans xs ys zs h k =
    let first = behind xs ys h in
    let whole = behind ys zs k ∙ ap (λ v. v ++ drop (length ys) zs) first ∙ append_assoc xs (drop (length xs) ys) (drop (length ys) zs) in
    subst (IsFront xs) (sym whole) (front-of xs (drop (length xs) ys ++ drop (length ys) zs))

pub front-under : {A : Type 0} (base : List A) (xs ys : List A) → IsFront xs ys → IsFront (base ++ xs) (base ++ ys)
front-under base xs ys h =
    subst (IsFront (base ++ xs)) (append_assoc base xs (drop (length xs) ys) ∙ ap (λ v. base ++ v) (sym (behind xs ys h)))
    (front-of (base ++ xs) (drop (length xs) ys))

-- a drawing, behind what was drawn before
abbrev pub prefixed : List Segment → Drawing → Drawing
prefixed xs d = record { place = d.place; is_open = d.is_open; segments = xs ++ d.segments }

abbrev pub mapped : {A B : Type 0} → (A → B) → Result A Refusal → Result B Refusal
mapped f (Ok x) = Ok (f x)
mapped f (Err e) = Err e

under : {A B C : Type 0} (f : B → C) (r : Result A Refusal) (here : A → Result C Refusal) (there : A → Result B Refusal) →
    ((x : A) → here x ≡ mapped f (there x)) → r >>= here ≡ mapped f (r >>= there)
under f (Ok x) here there same = same x
under f (Err e) here there same = refl

then : {A B : Type 0} (f : A → A) (g : B → B) (r : Result A Refusal) (next : A → Result B Refusal) →
    ((x : A) → next (f x) ≡ mapped g (next x)) → mapped f r >>= next ≡ mapped g (r >>= next)
then f g (Ok x) next same = same x
then f g (Err e) next same = refl

closed-by : (xs : List Segment) (place : Point) (is_open : Bool) (segments : List Segment) →
    let d : Drawing = record { place = place; is_open = is_open; segments = segments } in closed (prefixed xs d) ≡ prefixed xs (closed d)
closed-by xs place true segments = ap (λ v. record { place = place; is_open = false; segments = v }) (append_assoc xs segments (Close ∷ []))
closed-by xs place false segments = refl

begun-by : (xs : List Segment) (place : Point) (is_open : Bool) (segments : List Segment) →
    let d : Drawing = record { place = place; is_open = is_open; segments = segments } in begun (prefixed xs d) ≡ prefixed xs (begun d)
begun-by xs place true segments = refl
begun-by xs place false segments =
    ap (λ v. record { place = place; is_open = true; segments = v }) (append_assoc xs segments (MoveTo place ∷ []))

extended-by : (xs : List Segment) (d here : Drawing) (segment : Segment) (p : Point) → here ≡ prefixed xs d →
    extended here segment p ≡ prefixed xs (extended d segment p)
extended-by xs d here segment p same =
    ap (λ v. extended v segment p) same
    ∙ ap (λ v. record { place = p; is_open = true; segments = v }) (append_assoc xs d.segments (segment ∷ []))

drawn-under : (xs : List Segment) (s : Stroke) (d : Drawing) → drawn s (prefixed xs d) ≡ mapped (prefixed xs) (drawn s d)
drawn-under xs (Move v) d =
    under (prefixed xs) (reached d.place v) _ _
    (λ p. ap Ok (extended-by xs (closed d) (closed (prefixed xs d)) (MoveTo p) p (closed-by xs d.place d.is_open d.segments)))
drawn-under xs (Line v) d =
    under (prefixed xs) (reached d.place v) _ _
    (λ p. ap Ok (extended-by xs (begun d) (begun (prefixed xs d)) (LineTo p) p (begun-by xs d.place d.is_open d.segments)))
drawn-under xs (Curve a b c) d =
    under (prefixed xs) (reached d.place a) _ _ (λ p.
    under (prefixed xs) (reached p b) _ _ (λ q.
    under (prefixed xs) (reached q c) _ _ (λ r.
    ap Ok (extended-by xs (begun d) (begun (prefixed xs d)) (CurveTo p q r) r (begun-by xs d.place d.is_open d.segments)))))

pub drawing-under : (xs : List Segment) (ss : List Stroke) (d : Drawing) → drawing ss (prefixed xs d) ≡ mapped (prefixed xs) (drawing ss d)
drawing-under xs [] d = refl
drawing-under xs (s ∷ ss) d =
    ap (λ r. r >>= drawing ss) (drawn-under xs s d) ∙ then (prefixed xs) (prefixed xs) (drawn s d) (drawing ss) (λ e. drawing-under xs ss e)

-- behind what stands in a drawing
abbrev pub bare : Drawing → Drawing
bare d = record { place = d.place; is_open = d.is_open; segments = [] }

pub drawing-behind : (ss : List Stroke) (d : Drawing) → drawing ss d ≡ mapped (prefixed d.segments) (drawing ss (bare d))
drawing-behind ss d =
    ap (λ v. drawing ss (record { place = d.place; is_open = d.is_open; segments = v })) (sym (append-nil d.segments))
    ∙ drawing-under d.segments ss (bare d)

mapped-grows : (xs : List Segment) (r : Result Drawing Refusal) → IfOk (mapped (prefixed xs) r) (λ e. IsFront xs e.segments)
mapped-grows xs (Ok d) = front-of xs d.segments
mapped-grows xs (Err e) = tt

pub drawing-grows : (ss : List Stroke) (d : Drawing) → IfOk (drawing ss d) (λ e. IsFront d.segments e.segments)
drawing-grows ss d =
    let P : Result Drawing Refusal → Type 0 = λ r. IfOk r (λ e. IsFront d.segments e.segments) in
    subst P (sym (drawing-behind ss d)) (mapped-grows d.segments (drawing ss (bare d)))

-- a front of what is drawn first is one of what is drawn in all
onwards : {B : Type 0} (to : B → List Segment) (xs ys : List Segment) (r : Result B Refusal) → IsFront xs ys →
    IfOk r (λ e. IsFront ys (to e)) → IfOk r (λ e. IsFront xs (to e))
onwards to xs ys (Ok e) h k = front-trans xs ys (to e) h k
onwards to xs ys (Err e) h k = tt

pub front-through : {A B : Type 0} (of : A → List Segment) (to : B → List Segment) (xs : List Segment) (r : Result A Refusal)
    (next : A → Result B Refusal)
    → IfOk r (λ x. IsFront xs (of x)) → ((x : A) → IfOk (next x) (λ e. IsFront (of x) (to e))) → IfOk (r >>= next) (λ e. IsFront xs (to e))
front-through of to xs (Ok x) next h grows = onwards to xs (of x) (next x) h (grows x)
front-through of to xs (Err e) next h grows = tt

-- strokes, and others behind them
after-next : (r : Result Drawing Refusal) (all first next : Drawing → Result Drawing Refusal) →
    ((d : Drawing) → all d ≡ first d >>= next) → r >>= all ≡ (r >>= first) >>= next
after-next (Ok d) all first next same = same d
after-next (Err e) all first next same = refl

pub drawing-append : (xs ys : List Stroke) (d : Drawing) → drawing (xs ++ ys) d ≡ drawing xs d >>= drawing ys
drawing-append [] ys d = refl
drawing-append (x ∷ xs) ys d = after-next (drawn x d) (drawing (xs ++ ys)) (drawing xs) (drawing ys) (drawing-append xs ys)

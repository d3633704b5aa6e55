-- What is drawn in whole units.
use Rattle.std.proofs.Common.{◌≡◌, refl, ap, sym, ◌∙◌, ℕ, ℤ, ◌+ℤ◌, ◌-ℤ◌, Bool, true, false, List, [], ◌∷◌, ◌++◌, map, Option, Result, Ok, Err, arith}
use Rattle.std.proofs.lemmas.Int.{ints}
use Rattle.postscript_base.specs.Refusal.{Refusal}
use Rattle.postscript_drawing.specs.Drawing.{Drawing, ◌>>=◌, reached, blank, closed, begun, extended, drawn, drawing}
use Rattle.postscript_drawing.specs.Operators.{strokes}
use Rattle.postscript_drawing.specs.Outline.{drawing_of, finished}
use Rattle.postscript_drawing.specs.declared.stroke.Stroke.{Stroke}
use Rattle.postscript_drawing.specs.declared.stroke.Stroke.TheVariants.{Move, Line, Curve}
use Rattle.postscript_drawing.specs.declared.stroke.Vector.{Vector}
use Rattle.postscript_outline.specs.Points.{point}
use Rattle.postscript_outline.specs.declared.point.Point.{Point}
use Rattle.postscript_outline.specs.declared.segment.Segment.{Segment}
use Rattle.postscript_outline.specs.declared.segment.Segment.TheVariants.{MoveTo, LineTo, CurveTo, Close}
use Rattle.postscript_type2.specs.Program.FixedPoint.{fit}
use Rattle.postscript_type2.specs.Program.Meaning.{IsRunOf}
use Rattle.postscript_type2.specs.Program.StackRules.{IsHeld}
use Rattle.postscript_type2.specs.Program.Routines.{Lists}
use Rattle.postscript_type2.specs.Program.Runs as runs
use Rattle.postscript_type2.specs.Program.Runs.{Answer, Finished, Run}
use Rattle.postscript_type2.proofs.MeaningLaws as means
use Rattle.postscript_variable.specs.declared.charstring.Charstring.{Charstring}
use Rattle.postscript_variable.specs.Charstrings.{font_from, IsRunFrom}
use Rattle.postscript_variable.specs.Meaning.{End, UsedUp}
use Rattle.postscript_variable.specs.Programs.{end_of}
use Rattle.postscript_variable.specs.Sayings.{Phrase}
use Rattle.postscript_variable.specs.Told.{answer_of}
use Rattle.postscript_variable.proofs.BlendLaws.{fit-held}
use Rattle.postscript_variable.proofs.MeaningLaws as varied
use Rattle.postscript_variable.proofs.SaysLaws as says
use Rattle.postscript_instance.specs.Laws.{NearestIsNearest, RoundedOutlines}
use Rattle.postscript_instance.specs.Pieces.{strokes_of}
use Rattle.postscript_instance.specs.Rounded.{origin, AreRounded, IsRoundedOf}
use Rattle.postscript_instance.specs.Nearest.{nearest, nearest_point, nearest_segment, led, rounded_by, rounded_strokes, behind, IsInRange, AreInRange}
use Rattle.postscript_instance.specs.Statics.{answer_with}
use Rattle.postscript_instance.proofs.InUnits.{origin-in-range}
use Rattle.postscript_instance.proofs.Nearest.{at-origin, is-whole, above-low, below-high}
use Rattle.postscript_instance.proofs.Operations.{same-strokes, drawn-with}
use Rattle.postscript_instance.proofs.Units.{strokes-append, range-append, range-behind}

pub nearest-law : NearestIsNearest
nearest-law bits = record { whole = is-whole bits; below = above-low bits; above = below-high bits }

-- what strokes draw, whatever the range
abbrev go : Stroke → Drawing → Drawing
go (Move v) d = let p = led d.place v in extended (closed d) (MoveTo p) p
go (Line v) d = let p = led d.place v in extended (begun d) (LineTo p) p
go (Curve a b c) d =
    let p = led d.place a in
    let q = led p b in
    let r = led q c in
    extended (begun d) (CurveTo p q r) r

abbrev all : List Stroke → Drawing → Drawing
all [] d = d
all (s ∷ strokes) d = all strokes (go s d)

-- what is drawn is that, where it is in the range
first-ok : {A B : Type 0} (r : Result A Refusal) (f : A → Result B Refusal) (y : B) → r >>= f ≡ Ok y → (x : A) × (r ≡ Ok x) × (f x ≡ Ok y)
first-ok (Ok x) f y h = (x, refl, h)
first-ok (Err e) f y h = absurd (cc)

fit-is : (x y : ℤ) → fit x ≡ Ok y → y ≡ x
fit-is x y h = grind arith

ok-same : {A : Type 0} (x y : A) → ◌≡◌ {A = Result A Refusal} (Ok x) (Ok y) → x ≡ y
ok-same x y h = cc

at-point : (a b x y : ℤ) (q : Point) → a ≡ x → b ≡ y → ◌≡◌ {A = Result Point Refusal} (Ok (point a b)) (Ok q) → q ≡ point x y
at-point a b x y q ha hb h = sym (ok-same (point a b) q h) ∙ ap (λ z. point z b) ha ∙ ap (λ z. point x z) hb

reached-is : (p : Point) (v : Vector) (q : Point) → reached p v ≡ Ok q → q ≡ led p v
reached-is p v q h =
    let x = first-ok (fit (p.x +ℤ v.dx)) _ q h in
    let y = first-ok (fit (p.y +ℤ v.dy)) _ q x.2 in
    at-point x.0 y.0 (p.x +ℤ v.dx) (p.y +ℤ v.dy) q (fit-is (p.x +ℤ v.dx) x.0 x.1) (fit-is (p.y +ℤ v.dy) y.0 y.1) y.2

drawn-is : (s : Stroke) (d e : Drawing) → drawn s d ≡ Ok e → e ≡ go s d
drawn-is (Move v) d e h =
    let p = first-ok (reached d.place v) _ e h in
    sym (ok-same (extended (closed d) (MoveTo p.0) p.0) e p.2) ∙ ap (λ z. extended (closed d) (MoveTo z) z) (reached-is d.place v p.0 p.1)
drawn-is (Line v) d e h =
    let p = first-ok (reached d.place v) _ e h in
    sym (ok-same (extended (begun d) (LineTo p.0) p.0) e p.2) ∙ ap (λ z. extended (begun d) (LineTo z) z) (reached-is d.place v p.0 p.1)
drawn-is (Curve a b c) d e h =
    let p = first-ok (reached d.place a) _ e h in
    let q = first-ok (reached p.0 b) _ e p.2 in
    let r = first-ok (reached q.0 c) _ e q.2 in
    let at_p = reached-is d.place a p.0 p.1 in
    let at_q = reached-is p.0 b q.0 q.1 ∙ ap (λ z. led z b) at_p in
    let at_r = reached-is q.0 c r.0 r.1 ∙ ap (λ z. led z c) at_q in
    sym (ok-same (extended (begun d) (CurveTo p.0 q.0 r.0) r.0) e r.2)
    ∙ ap (λ z. extended (begun d) (CurveTo z q.0 r.0) r.0) at_p
    ∙ ap (λ z. extended (begun d) (CurveTo (led d.place a) z r.0) r.0) at_q
    ∙ ap (λ z. extended (begun d) (CurveTo (led d.place a) (led (led d.place a) b) z) z) at_r

drawing-is : (ss : List Stroke) (d e : Drawing) → drawing ss d ≡ Ok e → e ≡ all ss d
drawing-is [] d e h = sym (ok-same d e h)
drawing-is (s ∷ ss) d e h =
    let one = first-ok (drawn s d) (drawing ss) e h in
    drawing-is ss one.0 e one.2 ∙ ap (all ss) (drawn-is s d one.0 one.1)

go-place : (ss : List Stroke) (d : Drawing) → (all ss d).place ≡ behind d.place ss
go-place [] d = refl
go-place (Move v ∷ ss) d = go-place ss (go (Move v) d)
go-place (Line v ∷ ss) d = go-place ss (go (Line v) d)
go-place (Curve a b c ∷ ss) d = go-place ss (go (Curve a b c) d)

-- a drawing in whole units
abbrev near : Drawing → Drawing
near d = record { place = nearest_point d.place; is_open = d.is_open; segments = map nearest_segment d.segments }

one-more : (xs : List Segment) (x : Segment) → map nearest_segment (xs ++ x ∷ []) ≡ map nearest_segment xs ++ nearest_segment x ∷ []
one-more [] x = refl
one-more (y ∷ xs) x = ap (λ zs. nearest_segment y ∷ zs) (one-more xs x)

near-extended : (d : Drawing) (s : Segment) (p : Point) → near (extended d s p) ≡ extended (near d) (nearest_segment s) (nearest_point p)
near-extended d s p =
    ap (λ (zs : List Segment). let e : Drawing = record { place = nearest_point p; is_open = true; segments = zs } in e)
    (one-more d.segments s)

near-closed : (p : Point) (is_open : Bool) (segments : List Segment) →
    let d : Drawing = record { place = p; is_open = is_open; segments = segments } in near (closed d) ≡ closed (near d)
near-closed p true segments =
    ap (λ (zs : List Segment). let e : Drawing = record { place = nearest_point p; is_open = false; segments = zs } in e)
    (one-more segments Close)
near-closed p false segments = refl

near-begun : (p : Point) (is_open : Bool) (segments : List Segment) →
    let d : Drawing = record { place = p; is_open = is_open; segments = segments } in near (begun d) ≡ begun (near d)
near-begun p true segments = refl
near-begun p false segments =
    ap (λ (zs : List Segment). let e : Drawing = record { place = nearest_point p; is_open = true; segments = zs } in e)
    (one-more segments (MoveTo p))

-- a vector between the nearest whole units leads from one to the other
lands : (from distance : ℤ) → IsHeld (nearest (from +ℤ distance)) →
    fit (nearest from +ℤ (nearest (from +ℤ distance) -ℤ nearest from)) ≡ Ok (nearest (from +ℤ distance))
lands from distance held = ap fit (there (nearest from) (nearest (from +ℤ distance))) ∙ fit-held (nearest (from +ℤ distance)) held
  where
    there : (a b : ℤ) → a +ℤ (b -ℤ a) ≡ b
    there a b = omega (arith, ints)

reached-near : (p : Point) (v : Vector) → IsInRange (led p v) → reached (nearest_point p) (rounded_by p v) ≡ Ok (nearest_point (led p v))
reached-near p v range =
    let along : fit ((nearest_point p).x +ℤ (rounded_by p v).dx) ≡ Ok (nearest (led p v).x) = lands p.x v.dx range.0 in
    let up : fit ((nearest_point p).y +ℤ (rounded_by p v).dy) ≡ Ok (nearest (led p v).y) = lands p.y v.dy range.1 in
    rw (along, up) refl

range-first : (p : Point) (ss : List Stroke) → AreInRange p ss → IsInRange p
range-first p [] are = are
range-first p (Move v ∷ ss) are = are.0
range-first p (Line v ∷ ss) are = are.0
range-first p (Curve a b c ∷ ss) are = are.0

drawn-move : (v : Vector) (d : Drawing) → IsInRange (led d.place v) → drawn (Move (rounded_by d.place v))
    (near d) ≡ Ok (near (go (Move v) d))
drawn-move v d range =
    let p = led d.place v in
    ap (λ r. r >>= λ q. Ok (extended (closed (near d)) (MoveTo q) q)) (reached-near d.place v range)
    ∙ ap (λ (e : Drawing). Ok (extended e (MoveTo (nearest_point p)) (nearest_point p))) (sym (near-closed d.place d.is_open d.segments))
    ∙ ap Ok (sym (near-extended (closed d) (MoveTo p) p))

drawn-line : (v : Vector) (d : Drawing) → IsInRange (led d.place v) → drawn (Line (rounded_by d.place v))
    (near d) ≡ Ok (near (go (Line v) d))
drawn-line v d range =
    let p = led d.place v in
    ap (λ r. r >>= λ q. Ok (extended (begun (near d)) (LineTo q) q)) (reached-near d.place v range)
    ∙ ap (λ (e : Drawing). Ok (extended e (LineTo (nearest_point p)) (nearest_point p))) (sym (near-begun d.place d.is_open d.segments))
    ∙ ap Ok (sym (near-extended (begun d) (LineTo p) p))

drawn-curve : (a b c : Vector) (d : Drawing) → let p = led d.place a in let q = led p b in IsInRange p → IsInRange q → IsInRange (led q c) →
    drawn (Curve (rounded_by d.place a) (rounded_by p b) (rounded_by q c)) (near d) ≡ Ok (near (go (Curve a b c) d))
drawn-curve a b c d at_p at_q at_r =
    let p = led d.place a in
    let q = led p b in
    let r = led q c in
    ap (λ z. z >>= λ x. reached x (rounded_by p b) >>= λ y. reached y (rounded_by q c) >>= λ z. Ok
    (extended (begun (near d)) (CurveTo x y z) z)) (reached-near d.place a at_p)
    ∙ ap (λ z. z >>= λ y. reached y (rounded_by q c) >>= λ z. Ok (extended (begun (near d)) (CurveTo (nearest_point p) y z) z))
    (reached-near p b at_q)
    ∙ ap (λ z. z >>= λ z. Ok (extended (begun (near d)) (CurveTo (nearest_point p) (nearest_point q) z) z)) (reached-near q c at_r)
    ∙ ap (λ (e : Drawing). Ok (extended e (CurveTo (nearest_point p) (nearest_point q) (nearest_point r)) (nearest_point r)))
    (sym (near-begun d.place d.is_open d.segments))
    ∙ ap Ok (sym (near-extended (begun d) (CurveTo p q r) r))

drawing-near : (ss : List Stroke) (d : Drawing) → AreInRange d.place ss → drawing (rounded_strokes d.place ss)
    (near d) ≡ Ok (near (all ss d))
drawing-near [] d range = refl
drawing-near (Move v ∷ ss) d range =
    ap (λ r. r >>= drawing (rounded_strokes (led d.place v) ss)) (drawn-move v d (range-first (led d.place v) ss range.1))
    ∙ drawing-near ss (go (Move v) d) range.1
drawing-near (Line v ∷ ss) d range =
    ap (λ r. r >>= drawing (rounded_strokes (led d.place v) ss)) (drawn-line v d (range-first (led d.place v) ss range.1))
    ∙ drawing-near ss (go (Line v) d) range.1
drawing-near (Curve a b c ∷ ss) d range =
    let r = led (led (led d.place a) b) c in
    ap (λ z. z >>= drawing (rounded_strokes r ss)) (drawn-curve a b c d range.1 range.2 (range-first r ss range.3))
    ∙ drawing-near ss (go (Curve a b c) d) range.3

-- all that is said
rounded-all : (p : Point) (xs ys : List Phrase) → IsInRange p → AreRounded p xs ys →
    (strokes_of ys ≡ rounded_strokes p (strokes_of xs)) × AreInRange p (strokes_of xs)
rounded-all p [] [] here are = (refl, here)
rounded-all p [] (y ∷ ys) here are = absurd are
rounded-all p (x ∷ xs) [] here are = absurd are
rounded-all p (x ∷ xs) (y ∷ ys) here are =
    let old = strokes x.operator x.operands in
    let rest = rounded-all (behind p old) xs ys (range-behind p old are.0.in_range) are.1 in (
      ap (λ ss. ss ++ strokes_of ys) are.0.drawn ∙ ap (λ ss. rounded_strokes p old ++ ss) rest.0
          ∙ sym (strokes-append p old (strokes_of xs)),
      range-append p old (strokes_of xs) are.0.in_range rest.1,
    )

near-blank : near blank ≡ blank
near-blank = ap (λ z. let e : Drawing = record { place = point z z; is_open = false; segments = [] } in e) at-origin

-- what the run of a code in whole units answers, and what the charstring's does
answered : (charstring : Charstring) (width : Option ℤ) (code : List ℕ) (is : IsRoundedOf charstring width code) (lists : Lists)
    (run : Run) → IsRunOf lists code run →
    (run.answers ≡ map (answer_with width) is.written) × (run.end ≡ Finished [] width)
answered charstring width code is lists run runs_so =
    let does = is.does lists in
    let same : run ≡ does.run = sym ((means.runs lists code run).0 runs_so) ∙ (means.runs lists code does.run).0 does.is in
    (ap (λ (r : Run). r.answers) same ∙ does.answers, ap (λ (r : Run). r.end) same ∙ does.end)

varied-answered : (charstring : Charstring) (width : Option ℤ) (code : List ℕ) (is : IsRoundedOf charstring width code)
    (answers : List Answer) (end : End) → IsRunFrom charstring answers end →
    (answers ≡ map answer_of is.says) × (end ≡ UsedUp is.said.last)
varied-answered charstring width code is answers end varies =
    let font = font_from charstring in
    let index = charstring.blends.index in
    let bytes = charstring.code.now in
    let said = is.said in
    let first = varied.no-other font index bytes answers said.answers end _ varies said.run in
    let told = says.answered font index bytes said.answers _ said.run in
    (first.0 ∙ told ∙ ap (map answer_of) (sym said.all), first.1)

pub outlines : RoundedOutlines
outlines charstring width code is answers end varies segments draws lists run runs_so =
    let written = answered charstring width code is lists run runs_so in
    let whole = varied-answered charstring width code is answers end varies in
    let ss = strokes_of is.says in
    let exact : drawing ss blank >>= finished runs.UsedUp ≡ Ok segments =
    ap (λ r. r >>= finished runs.UsedUp)
    (sym (drawn-with answer_of (λ x. refl) is.says blank) ∙ ap (λ (xs : List Answer). drawing_of xs blank) (sym whole.0))
    ∙ ap (λ (e : End). drawing_of answers blank >>= finished (end_of e)) (sym whole.1) ∙ draws in
    let there = first-ok (drawing ss blank) (finished runs.UsedUp) segments exact in
    let last = drawing-is ss blank there.0 there.1 in
    let told : (closed (all ss blank)).segments ≡ segments = ap (λ (d : Drawing). (closed d).segments) (sym last)
    ∙ ok-same (closed there.0).segments segments there.2 in
    let rounded = rounded-all origin is.says is.near origin-in-range is.rounded in
    let drawn : drawing_of run.answers blank ≡ Ok (near (all ss blank)) =
    ap (λ (xs : List Answer). drawing_of xs blank) written.0 ∙ drawn-with (answer_with width) (λ x. refl) is.written blank
    ∙ ap (λ zs. drawing zs blank) (same-strokes is.in_pieces ∙ rounded.0) ∙ ap (drawing (rounded_strokes origin ss)) (sym near-blank)
    ∙ drawing-near ss blank rounded.1 in
    let end_d = all ss blank in
    record {
      segments = ap (λ e. drawing_of run.answers blank >>= finished e) written.1 ∙ ap (λ r. r >>= finished (Finished [] width)) drawn
          ∙ ap (λ (d : Drawing). Ok d.segments) (sym (near-closed end_d.place end_d.is_open end_d.segments))
          ∙ ap (λ xs. Ok (map nearest_segment xs)) told;
      end = written.1;
    }

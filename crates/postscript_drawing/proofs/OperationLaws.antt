-- Operations that are applied: they fit, and draw what a run of them draws.
use Rattle.std.proofs.lemmas.Bool.{eqb-true}
use Rattle.std.proofs.Common.{◌≡◌, refl, ap, sym, subst, ℕ, Bool, true, false, List, [], ◌∷◌, length, Option, Some, None, Result, Ok, Err, IfOk, OnOk, MatchResult, if◌then◌else◌}
use Rattle.postscript_base.specs.declared.error.Error.{Error}
use Rattle.postscript_base.specs.Refusal.{Refusal, malformed_operands}
use Rattle.postscript_drawing.proofs.ContourLaws.{contours-at}
use Rattle.postscript_drawing.specs.Applying.{applied}
use Rattle.postscript_outline.specs.Contours.{AreContours}
use Rattle.postscript_outline.specs.declared.outline.Outline.{Outline}
use Rattle.postscript_outline.specs.declared.segment.Segment.{Segment}
use Rattle.postscript_drawing.specs.Drawing.{Drawing, ◌>>=◌, blank, drawing}
use Rattle.postscript_drawing.specs.Drawn.{zero_point}
use Rattle.postscript_drawing.specs.Fitting.{AllFit, fits, is_length}
use Rattle.postscript_drawing.specs.Operations.{OutlinesApplied, applied_all, outline_applied}
use Rattle.postscript_drawing.specs.Operators.{strokes}
use Rattle.postscript_drawing.specs.Outline.{Outlines, drawing_of, finished, outline_of}
use Rattle.postscript_type2.specs.Operation.Kinds.{taken}
use Rattle.postscript_type2.specs.Program.Runs.{Answer, Run}

length-is : (o : Option ℕ) (m : ℕ) → is_length o m ≡ true → o ≡ Some m
length-is (Some n) m is = ap Some (eqb-true n m is)
length-is None m is = cc

by-test : (b : Bool) (wanted : Result Drawing Refusal) (e : Refusal) (d : Drawing) → (if b then wanted else Err e) ≡ Ok d →
    (b ≡ true) × (wanted ≡ Ok d)
by-test true wanted e d is = (refl, is)
by-test false wanted e d is = cc

through : {A B : Type 0} (r : Result A Refusal) (next : A → Result B Refusal) (y : B) → r >>= next ≡ Ok y →
    (x : A) × (r ≡ Ok x) × (next x ≡ Ok y)
through (Ok x) next y is = (x, refl, is)
through (Err e) next y is = cc

applied-fits : (answers : List Answer) (d other : Drawing) → applied_all answers d ≡ Ok other →
    AllFit answers × (drawing_of answers d ≡ Ok other)
applied-fits [] d other is = (tt, is)
applied-fits (answer ∷ answers) d other is =
    let first = through (applied answer.operator answer.operands d) (applied_all answers) other is in
    let test = by-test (fits answer.operator answer.operands)
    (drawing (strokes answer.operator answer.operands) d) malformed_operands first.0 first.1 in
    let rest = applied-fits answers first.0 other first.2 in
    let fit = length-is (taken answer.operator (length answer.operands)) (length answer.operands) test.0 in
    let P : Result Drawing Refusal → Type 0 = λ r. r >>= drawing_of answers ≡ Ok other in
    ((fit, rest.0), subst P (sym test.1) rest.1)

-- the operations of an outline fit
outline-fits : (run : Run) (segments : List Segment) → outline_applied run ≡ Ok segments → AllFit run.answers
outline-fits run segments is =
    let whole = through (applied_all run.answers blank) (finished run.end) segments is in
    (applied-fits run.answers blank whole.0 whole.1).0

-- and it is the outline of their run
outline-drawn : (run : Run) (segments : List Segment) → outline_applied run ≡ Ok segments → outline_of run ≡ Ok segments
outline-drawn run segments is =
    let whole = through (applied_all run.answers blank) (finished run.end) segments is in
    let P : Result Drawing Refusal → Type 0 = λ r. r >>= finished run.end ≡ Ok segments in
    subst P (sym (applied-fits run.answers blank whole.0 whole.1).1) whole.2

outline-contours : (run : Run) (segments : List Segment) → outline_applied run ≡ Ok segments → AreContours segments
outline-contours run segments is =
    let P : Result (List Segment) Refusal → Type 0 = λ r. IfOk r AreContours in
    subst P (outline-drawn run segments is) (contours-at zero_point run.answers run.end)

pub of-drawn : (E : Error → Type 0) (run : Run) (r : Result Outline Error) → MatchResult r (λ outline. OutlinesApplied outline run) E →
    IfOk r (λ outline. Outlines outline run)
of-drawn E run (Ok outline) h = record { segments = outline-drawn run outline.segments.items h.segments; width = h.width }
of-drawn E run (Err e) h = tt

pub of-fitting : (E : Error → Type 0) (run : Run) (r : Result Outline Error) → MatchResult r (λ outline. OutlinesApplied outline run) E →
    OnOk r (AllFit run.answers)
of-fitting E run (Ok outline) h = outline-fits run outline.segments.items h.segments
of-fitting E run (Err e) h = tt

pub of-contours : (E : Error → Type 0) (run : Run) (r : Result Outline Error) → MatchResult r (λ outline. OutlinesApplied outline run) E →
    IfOk r (λ outline. AreContours outline.segments.items)
of-contours E run (Ok outline) h = outline-contours run outline.segments.items h.segments
of-contours E run (Err e) h = tt

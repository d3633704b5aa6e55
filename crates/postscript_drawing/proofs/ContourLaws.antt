-- What is drawn is contours, the last of which may be open.
use Rattle.std.proofs.Common.{◌≡◌, Bool, true, false, List, [], ◌∷◌, ◌++◌, Result, Ok, Err, IfOk, ℕ, ℤ, Option, ◌⊎◌, inl, inr, ap, sym, ◌∙◌, refl, subst}
use Rattle.postscript_base.specs.Refusal.{Refusal}
use Rattle.postscript_outline.specs.Contours.{AreContours, Leads}
use Rattle.postscript_outline.specs.declared.segment.Segment.{Segment}
use Rattle.postscript_outline.specs.declared.segment.Segment.TheVariants.{MoveTo, LineTo, CurveTo, Close}
use Rattle.postscript_outline.specs.declared.point.Point.{Point}
use Rattle.postscript_drawing.specs.declared.stroke.Stroke.{Stroke}
use Rattle.postscript_drawing.specs.declared.stroke.Stroke.TheVariants.{Move, Line, Curve}
use Rattle.postscript_drawing.specs.Drawing.{Drawing, ◌>>=◌, begun, blank_at, closed, drawing, drawn, reached}
use Rattle.postscript_drawing.specs.Drawn.{DrawsAccented, DrawsComponent, DrawsPlain, IsDrawnAs, zero_point}
use Rattle.postscript_drawing.specs.Operators.{strokes}
use Rattle.postscript_drawing.specs.Outline.{drawing_of, finished, outlined_at}
use Rattle.postscript_view.specs.declared.font.FontView.{FontView}
use Rattle.postscript_type2.specs.Program.Runs.{Answer, End, Fault, Finished, Returned, UsedUp}

leads-append : (xs ys : List Segment) (a b c : Bool) → Leads a xs b → Leads b ys c → Leads a (xs ++ ys) c
leads-append [] ys a b c h k = subst (λ v. Leads v ys c) (cc) k
leads-append (MoveTo p ∷ xs) ys false b c h k = leads-append xs ys true b c h k
leads-append (MoveTo p ∷ xs) ys true b c h k = absurd h
leads-append (LineTo p ∷ xs) ys true b c h k = leads-append xs ys true b c h k
leads-append (LineTo p ∷ xs) ys false b c h k = absurd h
leads-append (CurveTo p q r ∷ xs) ys true b c h k = leads-append xs ys true b c h k
leads-append (CurveTo p q r ∷ xs) ys false b c h k = absurd h
leads-append (Close ∷ xs) ys true b c h k = leads-append xs ys false b c h k
leads-append (Close ∷ xs) ys false b c h k = absurd h

-- contours, the last of which may be open
abbrev IsShaped : Drawing → Type 0
IsShaped d = Leads false d.segments d.is_open

shaped-closed : (place : Point) (is_open : Bool) (segments : List Segment) → Leads false segments is_open
    → Leads false (closed (record { place = place; is_open = is_open; segments = segments })).segments false
shaped-closed place true segments h = leads-append segments (Close ∷ []) false true false h refl
shaped-closed place false segments h = h

shaped-begun : (place : Point) (is_open : Bool) (segments : List Segment) → Leads false segments is_open
    → Leads false (begun (record { place = place; is_open = is_open; segments = segments })).segments true
shaped-begun place true segments h = h
shaped-begun place false segments h = leads-append segments (MoveTo place ∷ []) false false true h refl

-- what holds after each step holds after both
after : {A B : Type 0} (Q : A → Type 0) (P : B → Type 0) (r : Result A Refusal) (next : A → Result B Refusal) → IfOk r Q →
    ((x : A) → Q x → IfOk (next x) P) → IfOk (r >>= next) P
after Q P (Ok x) next h k = k x h
after Q P (Err e) next h k = tt

any : {A B : Type 0} (P : B → Type 0) (r : Result A Refusal) (next : A → Result B Refusal) → ((x : A) → IfOk (next x) P) →
    IfOk (r >>= next) P
any P (Ok x) next k = k x
any P (Err e) next k = tt

shaped-drawn : (s : Stroke) (d : Drawing) → IsShaped d → IfOk (drawn s d) IsShaped
shaped-drawn (Move v) d h =
    any IsShaped (reached d.place v) _
    (λ p. leads-append (closed d).segments (MoveTo p ∷ []) false false true (shaped-closed d.place d.is_open d.segments h) refl)
shaped-drawn (Line v) d h =
    any IsShaped (reached d.place v) _
    (λ p. leads-append (begun d).segments (LineTo p ∷ []) false true true (shaped-begun d.place d.is_open d.segments h) refl)
shaped-drawn (Curve a b c) d h =
    any IsShaped (reached d.place a) _ (λ p.
    any IsShaped (reached p b) _ (λ q.
    any IsShaped (reached q c) _
    (λ r. leads-append (begun d).segments (CurveTo p q r ∷ []) false true true (shaped-begun d.place d.is_open d.segments h) refl)))

shaped-drawing : (ss : List Stroke) (d : Drawing) → IsShaped d → IfOk (drawing ss d) IsShaped
shaped-drawing [] d h = h
shaped-drawing (s ∷ ss) d h = after IsShaped IsShaped (drawn s d) (drawing ss) (shaped-drawn s d h) (λ e k. shaped-drawing ss e k)

shaped-drawing_of : (answers : List Answer) (d : Drawing) → IsShaped d → IfOk (drawing_of answers d) IsShaped
shaped-drawing_of [] d h = h
shaped-drawing_of (answer ∷ answers) d h =
    after IsShaped IsShaped (drawing (strokes answer.operator answer.operands) d) (drawing_of answers)
    (shaped-drawing (strokes answer.operator answer.operands) d h) (λ e k. shaped-drawing_of answers e k)

shaped-finished : (end : End) (d : Drawing) → IsShaped d → IfOk (finished end d) AreContours
shaped-finished (Fault e) d h = tt
shaped-finished UsedUp d h = shaped-closed d.place d.is_open d.segments h
shaped-finished (Returned st) d h = shaped-closed d.place d.is_open d.segments h
shaped-finished (Finished taken width) d h = shaped-closed d.place d.is_open d.segments h

-- what is drawn from a point is contours
pub contours-at : (origin : Point) (answers : List Answer) (end : End) → IfOk (outlined_at origin answers end) AreContours
contours-at origin answers end =
    after IsShaped AreContours (drawing_of answers (blank_at origin)) (finished end) (shaped-drawing_of answers (blank_at origin) refl)
    (shaped-finished end)

pub drawn-contours : (origin : Point) (answers : List Answer) (end : End) (segments : List Segment) →
    outlined_at origin answers end ≡ Ok segments → AreContours segments
drawn-contours origin answers end segments is =
    let P : Result (List Segment) Refusal → Type 0 = λ r. IfOk r AreContours in subst P is (contours-at origin answers end)

pub contours-both : (these those : List Segment) → AreContours these → AreContours those → AreContours (these ++ those)
contours-both these those first next = leads-append these those false false false first next

-- and so is all that a glyph draws
pub glyph-contours : (font : FontView) (glyph : ℕ) (segments : List Segment) (width : Option ℤ) → IsDrawnAs font glyph segments width →
    AreContours segments
glyph-contours font glyph segments width is = by_kind is.drawn
  where
    component : (code : ℕ) (origin : Point) (those : List Segment) → DrawsComponent font code origin those → AreContours those
    component code origin those draws = drawn-contours origin draws.run.answers draws.run.end those draws.draws

    by_kind : DrawsPlain is.run segments ⊎ DrawsAccented font is.run segments → AreContours segments
    by_kind (inl plain) = drawn-contours zero_point is.run.answers is.run.end segments plain.draws
    by_kind (inr accented) =
        let more = accented.draws_more in
        let parts = contours-both more.base more.above (component accented.accent.base _ more.base more.draws_base)
        (component accented.accent.accent _ more.above more.draws_accent) in
        let own = drawn-contours zero_point is.run.answers is.run.end accented.own accented.draws_own in
        subst AreContours (sym (accented.all ∙ ap (λ v. accented.own ++ v) more.all))
        (contours-both accented.own (more.base ++ more.above) own parts)

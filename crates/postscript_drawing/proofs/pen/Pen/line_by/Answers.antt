use Rattle.postscript_base.specs.Refusal.{overflow}
use Rattle.std.proofs.Common.{◌≡◌, Err, Ok, refl, rules, subst, sym, true, [], ◌∷◌, ◌++◌, ap}
use Rattle.postscript_outline.specs.declared.segment.Segment.TheVariants.{MoveTo, LineTo}
use Rattle.postscript_drawing.specs.declared.pen.Pen.{Pen}
use Rattle.postscript_drawing.specs.declared.stroke.Stroke.TheVariants.{Line}
use Rattle.postscript_drawing.specs.Drawing.{opening, reached}
use Rattle.postscript_drawing.specs.declared.undrawn.Undrawn.TheVariants.{Full}
use Rattle.postscript_drawing.proofs.DrawsLaws.{full_behind, lined, lined-out, overflows, passed-on, opening-closed, standing, stroke_drawn}
use Rattle.postscript_drawing.proofs.pen.Pen.line_by.Goals as goal

pub returns : goal.returns
returns g c =
    let pen = c.args.self.now in
    let at = c.in-Some.at in
    let there : Pen = record { at = at; is_open = true } in
    let reach : reached pen.at c.args.by ≡ Ok at = search rules in
    rw c.in_ok-begin.ensures.open
    (stroke_drawn (Line c.args.by) pen there (opening pen) (LineTo at) (standing at _) _
    (lined pen c.args.by at reach) refl c.in_ok-begin.ensures.begun c.in_ok-add.ensures.taken)

pub returns-in_default : goal.returns-in_default
returns-in_default g c =
    let pen = c.args.self.now in
    let out : reached pen.at c.args.by ≡ Err overflow = search rules in
    overflows (Line c.args.by) pen _ (lined-out pen c.args.by out) refl

pub returns-in_err-begin : goal.returns-in_err-begin
returns-in_err-begin g c =
    let pen = c.args.self.now in
    let at = c.in-Some.at in
    let reach : reached pen.at c.args.by ≡ Ok at = search rules in
    passed-on c.from_residual.result Full c.from_residual.ensures.1
    (full_behind (Line c.args.by) pen _ [] (MoveTo pen.at) (LineTo at ∷ []) (standing at _) {mid = g.S.Sink.state c.args.sink.now} (lined pen c.args.by at reach)
    (ap (λ v. v ++ LineTo at ∷ []) (opening-closed pen c.in_err-begin.ensures.closed)) refl c.in_err-begin.ensures.full c.in_err-begin.ensures.refuses)

pub returns-in_err-add : goal.returns-in_err-add
returns-in_err-add g c =
    let pen = c.args.self.now in
    let at = c.in-Some.at in
    let reach : reached pen.at c.args.by ≡ Ok at = search rules in
    passed-on c.from_residual-in_err-add.result Full c.from_residual-in_err-add.ensures.1
    (full_behind (Line c.args.by) pen _ (opening pen) (LineTo at) [] (standing at _) {mid = g.S.Sink.state c.begin.new.sink} {new = g.S.Sink.state c.add.new.self} (lined pen c.args.by at reach) refl c.in_ok-begin.ensures.begun c.in_err-add.ensures.full
    (subst g.S.Sink.refuses (sym c.in_err-add.ensures.full) c.in_err-add.ensures.refuses))

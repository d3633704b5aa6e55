use Rattle.postscript_base.specs.Refusal.{overflow}
use Rattle.std.proofs.Common.{◌≡◌, Err, Ok, refl, rules, subst, sym, true, [], ◌∷◌, ◌++◌, ap}
use Rattle.postscript_outline.specs.declared.segment.Segment.TheVariants.{MoveTo, Close}
use Rattle.postscript_drawing.specs.declared.pen.Pen.{Pen}
use Rattle.postscript_drawing.specs.declared.stroke.Stroke.TheVariants.{Move}
use Rattle.postscript_drawing.specs.Drawing.{closing, reached}
use Rattle.postscript_drawing.specs.declared.undrawn.Undrawn.TheVariants.{Full}
use Rattle.postscript_drawing.proofs.DrawsLaws.{closing-open, full_behind, moved, moved-out, overflows, passed-on, standing, stroke_drawn}
use Rattle.postscript_drawing.proofs.pen.Pen.move_by.Goals as goal

pub returns : goal.returns
returns g c =
    let pen = c.args.self.now in
    let at = c.in-Some.at in
    let there : Pen = record { at = at; is_open = true } in
    let reach : reached pen.at c.args.by ≡ Ok at = search rules in
    stroke_drawn (Move c.args.by) pen there (closing pen) (MoveTo at) (standing at _) _
    (moved pen c.args.by at reach) refl c.in_ok-end.ensures.ended c.in_ok-add.ensures.taken

pub returns-in_default : goal.returns-in_default
returns-in_default g c =
    let pen = c.args.self.now in
    let out : reached pen.at c.args.by ≡ Err overflow = search rules in
    overflows (Move c.args.by) pen _ (moved-out pen c.args.by out) refl

pub returns-in_err-end : goal.returns-in_err-end
returns-in_err-end g c =
    let pen = c.args.self.now in
    let at = c.in-Some.at in
    let reach : reached pen.at c.args.by ≡ Ok at = search rules in
    passed-on c.from_residual.result Full c.from_residual.ensures.1
    (full_behind (Move c.args.by) pen _ [] Close (MoveTo at ∷ []) (standing at _) {mid = g.S.Sink.state c.args.sink.now} (moved pen c.args.by at reach)
    (ap (λ v. v ++ MoveTo at ∷ []) (closing-open pen c.in_err-end.ensures.open)) refl c.in_err-end.ensures.full c.in_err-end.ensures.refuses)

pub returns-in_err-add : goal.returns-in_err-add
returns-in_err-add g c =
    let pen = c.args.self.now in
    let at = c.in-Some.at in
    let reach : reached pen.at c.args.by ≡ Ok at = search rules in
    passed-on c.from_residual-in_err-add.result Full c.from_residual-in_err-add.ensures.1
    (full_behind (Move c.args.by) pen _ (closing pen) (MoveTo at) [] (standing at _) {mid = g.S.Sink.state c.end.new.sink} {new = g.S.Sink.state c.add.new.self} (moved pen c.args.by at reach) refl c.in_ok-end.ensures.ended c.in_err-add.ensures.full
    (subst g.S.Sink.refuses (sym c.in_err-add.ensures.full) c.in_err-add.ensures.refuses))

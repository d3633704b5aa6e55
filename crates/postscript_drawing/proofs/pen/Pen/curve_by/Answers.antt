use Rattle.std.proofs.Common.{refl, subst, sym, true, [], ◌∷◌, ◌++◌, ap}
use Rattle.postscript_outline.specs.declared.segment.Segment.TheVariants.{MoveTo, CurveTo}
use Rattle.postscript_drawing.specs.declared.pen.Pen.{Pen}
use Rattle.postscript_drawing.specs.declared.stroke.Stroke.TheVariants.{Curve}
use Rattle.postscript_drawing.specs.Drawing.{opening}
use Rattle.postscript_drawing.specs.declared.undrawn.Undrawn.TheVariants.{Full}
use Rattle.postscript_drawing.proofs.DrawsLaws.{full_behind, curved, curved-out, overflows, passed-on, opening-closed, standing, stroke_drawn}
use Rattle.postscript_drawing.proofs.pen.Pen.curve_by.Goals as goal

pub returns : goal.returns
returns g c =
    let pen = c.args.self.now in
    let p = c.in-Some.first in
    let q = c.in-Some.second in
    let r = c.in-Some.at in
    let there : Pen = record { at = r; is_open = true } in
    let reach = c.in-Some.ensures in
    rw c.in_ok-begin.ensures.open
    (stroke_drawn (Curve c.args.a c.args.b c.args.c) pen there (opening pen) (CurveTo p q r) (standing r _) _
    (curved pen c.args.a c.args.b c.args.c p q r reach.0 reach.1 reach.2) refl c.in_ok-begin.ensures.begun c.in_ok-add.ensures.taken)

pub returns-in_default : goal.returns-in_default
returns-in_default g c =
    let pen = c.args.self.now in
    overflows (Curve c.args.a c.args.b c.args.c) pen _ (curved-out pen c.args.a c.args.b c.args.c c.in_default.ensures) refl

pub returns-in_err-begin : goal.returns-in_err-begin
returns-in_err-begin g c =
    let pen = c.args.self.now in
    let p = c.in-Some.first in
    let q = c.in-Some.second in
    let r = c.in-Some.at in
    let reach = c.in-Some.ensures in
    passed-on c.from_residual.result Full c.from_residual.ensures.1
    (full_behind (Curve c.args.a c.args.b c.args.c) pen _ [] (MoveTo pen.at) (CurveTo p q r ∷ []) (standing r _) {mid = g.S.Sink.state c.args.sink.now} (curved pen c.args.a c.args.b c.args.c p q r reach.0 reach.1 reach.2)
    (ap (λ v. v ++ CurveTo p q r ∷ []) (opening-closed pen c.in_err-begin.ensures.closed)) refl c.in_err-begin.ensures.full c.in_err-begin.ensures.refuses)

pub returns-in_err-add : goal.returns-in_err-add
returns-in_err-add g c =
    let pen = c.args.self.now in
    let p = c.in-Some.first in
    let q = c.in-Some.second in
    let r = c.in-Some.at in
    let reach = c.in-Some.ensures in
    passed-on c.from_residual-in_err-add.result Full c.from_residual-in_err-add.ensures.1
    (full_behind (Curve c.args.a c.args.b c.args.c) pen _ (opening pen) (CurveTo p q r) [] (standing r _) {mid = g.S.Sink.state c.begin.new.sink} {new = g.S.Sink.state c.add.new.self} (curved pen c.args.a c.args.b c.args.c p q r reach.0 reach.1 reach.2) refl c.in_ok-begin.ensures.begun c.in_err-add.ensures.full
    (subst g.S.Sink.refuses (sym c.in_err-add.ensures.full) c.in_err-add.ensures.refuses))

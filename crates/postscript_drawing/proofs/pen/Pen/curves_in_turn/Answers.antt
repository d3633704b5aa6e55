use Rattle.std.proofs.Common.{◌≡◌, [], ◌∷◌, rules}
use Rattle.postscript_drawing.specs.declared.stroke.Stroke.{Stroke}
use Rattle.postscript_drawing.specs.declared.stroke.Stroke.TheVariants.{Curve}
use Rattle.postscript_drawing.specs.Strokes.{curves_in_turn, other}
use Rattle.postscript_drawing.proofs.DrawsLaws.{passed-on, so_all, so_more, so_refused}
use Rattle.postscript_drawing.proofs.pen.Pen.curves_in_turn.Goals as goal

pub returns-in_err-curve_by : goal.returns-in_err-curve_by
returns-in_err-curve_by g c =
    let stroke : Stroke = Curve c.in-Some.bend.a c.in-Some.bend.b c.in-Some.bend.c in
    let rest = curves_in_turn (other c.args.first) c.in-Some.bend.rest.now in
    let all : curves_in_turn c.args.first c.loop-bend.ahead.now ≡ stroke ∷ rest = search rules in
    passed-on c.from_residual.result c.in_err-curve_by.field-0.0 c.from_residual.ensures.1
    (so_refused (stroke ∷ []) rest all c.loop-bend.invariant c.in_err-curve_by.ensures)

pub returns-in_default-curve_in_turn : goal.returns-in_default-curve_in_turn
returns-in_default-curve_in_turn g c =
    let stroke : Stroke = Curve c.in-Some.bend.a c.in-Some.bend.b c.in-Some.bend.c in
    let rest = curves_in_turn (other c.args.first) c.in-Some.bend.rest.now in
    let all : curves_in_turn c.args.first c.loop-bend.ahead.now ≡ stroke ∷ rest = search rules in
    let none : rest ≡ [] = search rules in
    so_all none (so_more (stroke ∷ []) rest all c.loop-bend.invariant c.in_ok-curve_by.ensures)

pub returns-in_err-curve_by-2 : goal.returns-in_err-curve_by-2
returns-in_err-curve_by-2 g c =
    let stroke : Stroke = Curve c.in-Some.bend.a c.in-Some.bend.b c.in-Some.bend.c in
    let next : Stroke = Curve c.in-Some-curve_in_turn.turned.a c.in-Some-curve_in_turn.turned.b c.in-Some-curve_in_turn.turned.c in
    let rest = curves_in_turn (other c.args.first) c.in-Some.bend.rest.now in
    let behind = curves_in_turn (other (other c.args.first)) c.in-Some-curve_in_turn.turned.rest.now in
    let all : curves_in_turn c.args.first c.loop-bend.ahead.now ≡ stroke ∷ rest = search rules in
    let turned : rest ≡ next ∷ behind = search rules in
    let back = c.from_residual-in_err-curve_by-2 in
    passed-on back.result c.in_err-curve_by-2.field-0.0 back.ensures.1
    (so_refused (next ∷ []) behind turned
    (so_more (stroke ∷ []) rest all c.loop-bend.invariant c.in_ok-curve_by.ensures) c.in_err-curve_by-2.ensures)

pub loop-bend-preserved : goal.loop-bend-preserved
loop-bend-preserved g c =
    let stroke : Stroke = Curve c.in-Some.bend.a c.in-Some.bend.b c.in-Some.bend.c in
    let next : Stroke = Curve c.in-Some-curve_in_turn.turned.a c.in-Some-curve_in_turn.turned.b c.in-Some-curve_in_turn.turned.c in
    let rest = curves_in_turn (other c.args.first) c.in-Some.bend.rest.now in
    let behind = curves_in_turn c.args.first c.in-Some-curve_in_turn.turned.rest.now in
    let all : curves_in_turn c.args.first c.loop-bend.ahead.now ≡ stroke ∷ rest = search rules in
    let turned : rest ≡ next ∷ behind = search rules in
    so_more (next ∷ []) behind turned
    (so_more (stroke ∷ []) rest all c.loop-bend.invariant c.in_ok-curve_by.ensures) c.in_ok-curve_by-2.ensures

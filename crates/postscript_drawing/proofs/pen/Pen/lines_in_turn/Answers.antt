use Rattle.std.proofs.Common.{◌≡◌, [], ◌∷◌, rules}
use Rattle.postscript_drawing.specs.declared.stroke.Stroke.TheVariants.{Line}
use Rattle.postscript_drawing.specs.Strokes.{lines_in_turn, other}
use Rattle.postscript_drawing.proofs.DrawsLaws.{passed-on, so_all, so_more, so_refused}
use Rattle.postscript_drawing.proofs.pen.Pen.lines_in_turn.Goals as goal

pub returns-in_err-line_by : goal.returns-in_err-line_by
returns-in_err-line_by g c =
    let rest = lines_in_turn (other c.args.first) c.in-Some.behind.now in
    let all : lines_in_turn c.args.first c.loop-a.ahead.now ≡ Line c.in-Some.a ∷ rest = search rules in
    passed-on c.from_residual.result c.in_err-line_by.field-0.0 c.from_residual.ensures.1
    (so_refused (Line c.in-Some.a ∷ []) rest all c.loop-a.invariant c.in_err-line_by.ensures)

pub returns-in_default-line_in_turn : goal.returns-in_default-line_in_turn
returns-in_default-line_in_turn g c =
    let rest = lines_in_turn (other c.args.first) c.in-Some.behind.now in
    let all : lines_in_turn c.args.first c.loop-a.ahead.now ≡ Line c.in-Some.a ∷ rest = search rules in
    let none : rest ≡ [] = search rules in
    so_all none (so_more (Line c.in-Some.a ∷ []) rest all c.loop-a.invariant c.in_ok-line_by.ensures)

pub returns-in_err-line_by-2 : goal.returns-in_err-line_by-2
returns-in_err-line_by-2 g c =
    let rest = lines_in_turn (other c.args.first) c.in-Some.behind.now in
    let behind = lines_in_turn (other (other c.args.first)) c.in-Some-line_in_turn.rest.now in
    let all : lines_in_turn c.args.first c.loop-a.ahead.now ≡ Line c.in-Some.a ∷ rest = search rules in
    let turned : rest ≡ Line c.in-Some-line_in_turn.b ∷ behind = search rules in
    let back = c.from_residual-in_err-line_by-2 in
    passed-on back.result c.in_err-line_by-2.field-0.0 back.ensures.1
    (so_refused (Line c.in-Some-line_in_turn.b ∷ []) behind turned
    (so_more (Line c.in-Some.a ∷ []) rest all c.loop-a.invariant c.in_ok-line_by.ensures) c.in_err-line_by-2.ensures)

pub loop-a-preserved : goal.loop-a-preserved
loop-a-preserved g c =
    let rest = lines_in_turn (other c.args.first) c.in-Some.behind.now in
    let behind = lines_in_turn c.args.first c.in-Some-line_in_turn.rest.now in
    let all : lines_in_turn c.args.first c.loop-a.ahead.now ≡ Line c.in-Some.a ∷ rest = search rules in
    let turned : rest ≡ Line c.in-Some-line_in_turn.b ∷ behind = search rules in
    so_more (Line c.in-Some-line_in_turn.b ∷ []) behind turned
    (so_more (Line c.in-Some.a ∷ []) rest all c.loop-a.invariant c.in_ok-line_by.ensures) c.in_ok-line_by-2.ensures

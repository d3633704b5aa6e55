use Rattle.std.proofs.Common.{inr}
use Rattle.postscript_drawing.specs.Accents.{run_by}
use Rattle.postscript_drawing.proofs.GlyphSpending.{nothing-spent, pays-own, spends-one}
use Rattle.postscript_drawing.proofs.Owns.{has-run, own-front, own-so, refused-so}
use Rattle.postscript_drawing.proofs.ProgramLaws.{with-err}
use Rattle.postscript_drawing.proofs.glyph.draw_own.Goals as goal

pub returns-in-Some-clause-own : goal.returns-in-Some-clause-own
returns-in-Some-clause-own g c =
    let has = has-run c.args.font.now c.args.glyph c.in-Some.found c.in-Some.ensures.found c.in-Some.ensures.subroutines in
    own-so g.S.Sink.after (g.S.Sink.state c.args.sink.now)
    (g.S.Sink.state c.draw_run.new.sink) c.draw_run.result c.args.font.now c.args.glyph c.in-Some.found c.args.origin has
    c.draw_run.ensures.drawn c.draw_run.ensures.width c.draw_run.ensures.told

pub returns-in-Some-clause-spends : goal.returns-in-Some-clause-spends
returns-in-Some-clause-spends g c =
    let has = has-run c.args.font.now c.args.glyph c.in-Some.found c.in-Some.ensures.found c.in-Some.ensures.subroutines in
    spends-one c.args.font.now c.args.glyph c.in-Some.found.part.now
    (run_by c.in-Some.found) c.args.limit.now c.draw_run.new.limit has c.draw_run.ensures.spends

pub returns-in-Some-clause-why : goal.returns-in-Some-clause-why
returns-in-Some-clause-why g c =
    let has = has-run c.args.font.now c.args.glyph c.in-Some.found c.in-Some.ensures.found c.in-Some.ensures.subroutines in
    refused-so c.draw_run.new.limit c.draw_run.result c.args.font.now c.args.glyph c.in-Some.found c.args.origin has c.draw_run.ensures.why

pub returns-in-None-clause-spends : goal.returns-in-None-clause-spends
returns-in-None-clause-spends g c = nothing-spent c.args.font.now 0 c.args.limit.now

pub returns-in-Some-clause-front : goal.returns-in-Some-clause-front
returns-in-Some-clause-front g c =
    let has = has-run c.args.font.now c.args.glyph c.in-Some.found c.in-Some.ensures.found c.in-Some.ensures.subroutines in
    with-err c.draw_run.result (own-front c.args.font.now c.args.glyph c.in-Some.found c.args.origin has) c.draw_run.ensures.given

pub returns-in-Some-clause-more : goal.returns-in-Some-clause-more
returns-in-Some-clause-more g c = λ full.
    let has = has-run c.args.font.now c.args.glyph c.in-Some.found c.in-Some.ensures.found c.in-Some.ensures.subroutines in
    own-front c.args.font.now c.args.glyph c.in-Some.found c.args.origin has (c.draw_run.ensures.more full)

pub returns-in-Some-clause-paid : goal.returns-in-Some-clause-paid
returns-in-Some-clause-paid g c =
    let has = has-run c.args.font.now c.args.glyph c.in-Some.found c.in-Some.ensures.found c.in-Some.ensures.subroutines in
    pays-own c.args.font.now c.args.glyph c.in-Some.found.part.now
    (run_by c.in-Some.found) c.args.limit.now c.draw_run.new.limit c.draw_run.result has c.draw_run.ensures.told c.draw_run.ensures.paid

pub returns-in-Some-clause-named : goal.returns-in-Some-clause-named
returns-in-Some-clause-named g c =
    let has = has-run c.args.font.now c.args.glyph c.in-Some.found c.in-Some.ensures.found c.in-Some.ensures.subroutines in
    inr (c.in-Some.found.part.now, run_by c.in-Some.found, has, c.draw_run.ensures.spends)

pub returns-in-Some-clause-suffices : goal.returns-in-Some-clause-suffices
returns-in-Some-clause-suffices g c = λ suffices.
    let has = has-run c.args.font.now c.args.glyph c.in-Some.found c.in-Some.ensures.found c.in-Some.ensures.subroutines in
    c.draw_run.ensures.suffices (suffices c.in-Some.found.part.now (run_by c.in-Some.found) has)

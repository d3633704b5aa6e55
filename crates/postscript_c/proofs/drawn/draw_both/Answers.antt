use Rattle.std.proofs.Common.{Some, refl}
use Rattle.postscript_c.specs.Drawn.{IsFirst}
use Rattle.postscript_c.proofs.Drawing.{named-drawn, named-paid, named-refused}
use Rattle.postscript_c.proofs.drawn.draw_both.Goals as goal

pub returns-clause-drawn : goal.returns-clause-drawn
returns-clause-drawn g c =
    let first : IsFirst c.args.bytes.now
    c.in_ok-font.font = record { shown = c.in_ok-font.ensures.exact; there = c.in_ok-font.ensures.bytes } in
    named-drawn g.S.Sink.after (g.S.Sink.state c.args.sink.now)
    (g.S.Sink.state c.draw_components.new.sink) c.draw_components.result c.args.bytes.now (Some c.args.accent) c.args.accent c.in_ok-font.font
    refl first c.draw_components.ensures.drawn

pub returns-clause-why : goal.returns-clause-why
returns-clause-why g c =
    let first : IsFirst c.args.bytes.now
    c.in_ok-font.font = record { shown = c.in_ok-font.ensures.exact; there = c.in_ok-font.ensures.bytes } in
    named-refused c.args.limit.now c.draw_components.new.limit c.draw_components.result c.args.bytes.now (Some c.args.accent) c.args.accent
    c.in_ok-font.font refl first c.draw_components.ensures.spends c.draw_components.ensures.why

pub returns-clause-paid : goal.returns-clause-paid
returns-clause-paid g c =
    let first : IsFirst c.args.bytes.now
    c.in_ok-font.font = record { shown = c.in_ok-font.ensures.exact; there = c.in_ok-font.ensures.bytes } in
    named-paid c.args.limit.now c.draw_components.new.limit c.draw_components.result c.args.bytes.now (Some c.args.accent) c.args.accent
    c.in_ok-font.font refl first c.draw_components.ensures.paid

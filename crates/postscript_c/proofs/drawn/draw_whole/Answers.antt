use Rattle.std.proofs.Common.{◌≡◌, ◌∙◌, ap, subst}
use Rattle.postscript_c.specs.Drawn.{IsNamedBy, unread}
use Rattle.postscript_c.proofs.Drawing.{by-named, by-program, if-err, named-so, whole-drawn}
use Rattle.postscript_c.proofs.drawn.draw_whole.Goals as goal
use Rattle.postscript_drawing.specs.Accents.{HasNoCodes}
use Rattle.postscript_type2.specs.Program.Programs.{told_at_end}
use Rattle.postscript_type2.specs.Program.Runs.{taken_by}

pub returns-in_err-width-clause-why : goal.returns-in_err-width-clause-why
returns-in_err-width-clause-why g c =
    let e = c.in_err-width.field-0.0 in
    if-err c.from_residual.result e _ c.from_residual.ensures.1
    (by-program c.args.limit c.draw_program.new.limit c.args.bytes.now c.args.program.now e c.in_err-width.ensures.spends
    c.in_err-width.ensures.why)

pub returns-in_err-accent-clause-why : goal.returns-in_err-accent-clause-why
returns-in_err-accent-clause-why g c =
    let same : c.operands_at_end.result.now ≡ taken_by c.args.program.now.end = c.operands_at_end.ensures
    ∙ ap told_at_end c.in_ok-width.ensures.ended in
    if-err c.from_residual-in_err-accent.result c.in_err-accent.field-0.0 _ c.from_residual-in_err-accent.ensures.1
    (unread c.in_err-accent.ensures.why.0 (subst HasNoCodes same c.in_err-accent.ensures.why.1))

pub returns-in_err-draw_named-clause-why : goal.returns-in_err-draw_named-clause-why
returns-in_err-draw_named-clause-why g c =
    let same : c.operands_at_end.result.now ≡ taken_by c.args.program.now.end = c.operands_at_end.ensures
    ∙ ap told_at_end c.in_ok-width.ensures.ended in
    let names : IsNamedBy (taken_by c.args.program.now.end) c.in_ok-accent.accent = named-so c.in_ok-accent.accent
    c.operands_at_end.result.now (taken_by c.args.program.now.end) same c.in_ok-accent.ensures.told in
    let e = c.in_err-draw_named.field-0.0 in
    if-err c.from_residual-in_err-draw_named.result e _ c.from_residual-in_err-draw_named.ensures.1
    (by-named c.args.limit c.draw_program.new.limit c.draw_named.new.limit c.args.bytes.now c.args.program.now c.in_ok-accent.accent e
    c.in_ok-width.ensures.spends names c.in_err-draw_named.ensures.why)

pub returns-clause-drawn : goal.returns-clause-drawn
returns-clause-drawn g c =
    let same : c.operands_at_end.result.now ≡ taken_by c.args.program.now.end = c.operands_at_end.ensures
    ∙ ap told_at_end c.in_ok-width.ensures.ended in
    let names = named-so c.in_ok-accent.accent c.operands_at_end.result.now
    (taken_by c.args.program.now.end) same c.in_ok-accent.ensures.told in
    whole-drawn g.S.Sink.after (g.S.Sink.state c.args.sink.now) (g.S.Sink.state c.draw_program.new.sink)
    (g.S.Sink.state c.draw_named.new.sink) c.args.bytes.now c.args.program.now c.in_ok-width.width c.in_ok-accent.accent c.args.limit
    c.draw_program.new.limit c.draw_named.new.limit c.in_ok-width.ensures.drawn names c.in_ok-draw_named.ensures.drawn
    c.in_ok-width.ensures.spends c.in_ok-draw_named.ensures.paid

use Rattle.std.proofs.Common.{◌≡◌, ◌∙◌, Err, List, ap, false, inr, rules, subst, true}
use Rattle.postscript_base.specs.Index.Lent.{items_of}
use Rattle.postscript_type2.specs.Program.Programs.{told_at_end}
use Rattle.postscript_type2.specs.Program.Routines.{lent}
use Rattle.postscript_type2.specs.Program.Runs.{Answer, taken_by}
use Rattle.postscript_drawing.specs.Accents.{HasNoCodes, run_by}
use Rattle.postscript_drawing.specs.DrawnProgram.{DrawsOfFirst}
use Rattle.postscript_drawing.specs.Outcome.{OrFull}
use Rattle.postscript_drawing.proofs.Owns.{passed-on, told-so, whole-first}
use Rattle.postscript_drawing.proofs.ProgramLaws.{full-so, on-err}
use Rattle.postscript_drawing.proofs.glyph.draw_run.Goals as goal

pub returns-in_err-accent-clause-why : goal.returns-in_err-accent-clause-why
returns-in_err-accent-clause-why g c =
    let same : c.operands_at_end.result.now ≡ taken_by (run_by c.args.glyph.now).end =
    c.operands_at_end.ensures ∙ ap told_at_end c.in_ok-width.ensures.ended ∙ ap (λ p. taken_by p.end) c.program-program.ensures in
    passed-on c.from_residual-in_err-accent.result c.in_err-accent.field-0.0 _ c.from_residual-in_err-accent.ensures.1
    (inr (inr (c.in_err-accent.ensures.why.0, subst HasNoCodes same c.in_err-accent.ensures.why.1)))

pub returns-clause-told : goal.returns-clause-told
returns-clause-told g c =
    let glyph = c.args.glyph.now in
    let same : c.operands_at_end.result.now ≡ taken_by (run_by glyph).end =
    c.operands_at_end.ensures ∙ ap told_at_end c.in_ok-width.ensures.ended ∙ ap (λ p. taken_by p.end) c.program-program.ensures in
    told-so c.in_ok-accent.accent c.operands_at_end.result.now (run_by glyph) same
    (c.runs_end_so.ensures (lent (items_of glyph.global_subroutines) (items_of glyph.part.now.subroutines)) glyph.code.now)
    c.in_ok-accent.ensures.told

pub returns-in_err-accent-clause-given : goal.returns-in_err-accent-clause-given
returns-in_err-accent-clause-given g c =
    let run = run_by c.args.glyph.now in
    let drawn = c.in_ok-width.ensures.drawn in
    on-err c.from_residual-in_err-accent.result (whole-first c.args.origin run.answers run.end drawn.segments (search rules) drawn.taken)

pub returns-in_err-width-clause-more : goal.returns-in_err-width-clause-more
returns-in_err-width-clause-more g c = λ full.
    let old = g.S.Sink.state c.args.sink.now in
    let new = g.S.Sink.state c.draw_program.new.sink in
    let P : List Answer → Type 0 = λ answers. DrawsOfFirst (OrFull g.S.Sink.after) c.args.origin (old, false) (new, true) answers in
    subst P (ap (λ p. p.answers) c.program-program.ensures)
    (c.in_err-width.ensures.more (ap Err (full-so c.from_residual.result c.in_err-width.field-0.0 c.from_residual.ensures.1 full)))

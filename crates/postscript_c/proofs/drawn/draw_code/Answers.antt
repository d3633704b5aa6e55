use Rattle.std.proofs.Common.{inr}
use Rattle.postscript_base.specs.Index.Lent.{items_of}
use Rattle.postscript_c.proofs.Drawing.{if-err, program-there}
use Rattle.postscript_c.proofs.drawn.draw_code.Goals as goal

pub returns-in_err-width-clause-why : goal.returns-in_err-width-clause-why
returns-in_err-width-clause-why g c =
    let program = c.program_over-program.result in
    let there = program-there c.args.code c.in-Some.code c.args.global c.args.local c.args.bytes.now (items_of c.in_ok-globals.globals)
    (items_of c.in_ok-locals.locals) program c.in-Some.is (c.in_ok-globals.ensures.exact 0)
    (c.in_ok-locals.ensures.exact 0) c.program_over-program.ensures in
    if-err c.from_residual-in_err-width.result c.in_err-width.field-0.0 _ c.from_residual-in_err-width.ensures.1
    (inr (program, there, c.in_err-width.ensures.why))

pub returns-clause-drawn : goal.returns-clause-drawn
returns-clause-drawn g c =
    let program = c.program_over-program.result in
    let there = program-there c.args.code c.in-Some.code c.args.global c.args.local c.args.bytes.now (items_of c.in_ok-globals.globals)
    (items_of c.in_ok-locals.locals) program c.in-Some.is (c.in_ok-globals.ensures.exact 0)
    (c.in_ok-locals.ensures.exact 0) c.program_over-program.ensures in
    let drawn = c.in_ok-width.ensures.drawn in
    (drawn.0, (program, there, drawn.1), drawn.2)

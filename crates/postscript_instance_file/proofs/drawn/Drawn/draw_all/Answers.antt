use Rattle.std.proofs.Common.{sym, subst}
use Rattle.std.proofs.lemmas.Result.{err_from_is_err_and}
use Rattle.postscript_instance_file.specs.Glyphs.{HaveWidths}
use Rattle.postscript_instance_file.specs.Refusals.{no_widths}
use Rattle.postscript_instance_file.proofs.drawn.Drawn.draw_all.Goals as goal

pub returns-in_err-widths_of-clause-why : goal.returns-in_err-widths_of-clause-why
returns-in_err-widths_of-clause-why g c =
    let error = err_from_is_err_and c.from_residual.result c.from_residual.ensures.1 in
    rw (error.1, error.2) (no_widths c.in_err-widths_of.ensures.why)

pub returns-clause-widths : goal.returns-clause-widths
returns-clause-widths g c =
    subst (λ widths. HaveWidths c.args.face.now c.args.location.now widths.items) (sym c.put_each.ensures.kept) c.in_ok-widths_of.ensures.found

use Rattle.std.proofs.lemmas.Result.{err_from_is_err_and}
use Rattle.postscript_c.proofs.Locating.{no_location}
use Rattle.postscript_c.proofs.prepared.draw_at_location.Goals as goal

pub returns-in_err-place : goal.returns-in_err-place
returns-in_err-place c =
    let error = err_from_is_err_and c.from_residual.result c.from_residual.ensures.1 in
    rw (error.1, error.2)
    (no_location c.args.table.now c.args.scalars.now c.args.glyph c.args.limit c.in-Ok.font _ c.in-Ok.ensures.found c.in-Ok.ensures.lent
    c.in_err-place.ensures.why)

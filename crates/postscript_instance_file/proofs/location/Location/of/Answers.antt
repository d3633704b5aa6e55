use Rattle.std.proofs.lemmas.Result.{err_from_is_err_and}
use Rattle.postscript_instance_file.specs.Refusals.{no_place}
use Rattle.postscript_instance_file.proofs.location.Location.of.Goals as goal

pub returns-in_err-place-clause-why : goal.returns-in_err-place-clause-why
returns-in_err-place-clause-why c =
    let error = err_from_is_err_and c.from_residual-in_err-place.result c.from_residual-in_err-place.ensures.1 in
    rw (error.1) (no_place _ c.in_err-place.ensures error.2)

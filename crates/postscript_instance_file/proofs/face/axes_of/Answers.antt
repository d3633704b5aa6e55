use Rattle.std.proofs.Common.{refl}
use Rattle.std.proofs.lemmas.Result.{err_from_is_err_and}
use Rattle.postscript_instance_file.specs.Faces.{fvar_tag}
use Rattle.postscript_instance_file.specs.Refusals.{bad_axes}
use Rattle.postscript_instance_file.proofs.Refusing.{rejected}
use Rattle.postscript_instance_file.proofs.face.axes_of.Goals as goal
use Rattle.postscript_variation.specs.Refusals.{NoAxes}

pub returns-in_err-read_as-in-Some-clause-why : goal.returns-in_err-read_as-in-Some-clause-why
returns-in_err-read_as-in-Some-clause-why c =
    let error = err_from_is_err_and c.from_residual.result c.from_residual.ensures.1 in
    let why = c.in_err-read_as-in-Some.ensures.why in
    rw (error.1, error.2) (bad_axes _ why.0 why.2 refl
    (rejected (λ e t. NoAxes e t) c.args.file.now fvar_tag c.in-Some.fvar.now c.read.result why.0 c.in-Some.ensures c.read.ensures.why why.1))

use Rattle.std.proofs.Common.{inl, inr}
use Rattle.std.proofs.lemmas.Result.{err_from_is_err_and}
use Rattle.postscript_instance_file.proofs.instance.static_font.Goals as goal

pub returns-in_err-drawn-clause-why : goal.returns-in_err-drawn-clause-why
returns-in_err-drawn-clause-why g c =
    let error = err_from_is_err_and c.from_residual.result c.from_residual.ensures.1 in
    rw (error.1, error.2) (inl c.in_err-drawn.ensures.why)

pub returns-in_err-made-clause-why : goal.returns-in_err-made-clause-why
returns-in_err-made-clause-why g c =
    let error = err_from_is_err_and c.from_residual-in_err-made.result c.from_residual-in_err-made.ensures.1 in
    rw (error.1, error.2) (inr c.in_err-made.ensures.why)

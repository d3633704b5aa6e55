use Rattle.std.proofs.Common.{refl}
use Rattle.std.proofs.lemmas.Result.{err_from_is_err_and}
use Rattle.postscript_instance_file.specs.Faces.{mvar_tag}
use Rattle.postscript_instance_file.specs.Refusals.{HasBadMetrics}
use Rattle.postscript_instance_file.proofs.Refusing.{rejected}
use Rattle.postscript_instance_file.proofs.metrics.metric_variations.Goals as goal
use Rattle.postscript_variation.specs.Refusals.{NoMetrics}

pub returns-in_err-read_as-in-Some : goal.returns-in_err-read_as-in-Some
returns-in_err-read_as-in-Some c =
    let error = err_from_is_err_and c.from_residual.result c.from_residual.ensures.1 in
    let why = c.in_err-read_as-in-Some.ensures.why in
    let bad : HasBadMetrics c.args.file.now c.in_err-read_as-in-Some.field-0.0 = record {
      name = _;
      cause = why.0;
      named = refl;
      bad = rejected (λ e t. NoMetrics e t) c.args.file.now mvar_tag c.in-Some.mvar.now c.read.result why.0 c.in-Some.ensures c.read.ensures.why why.1;
      is = why.2;
    } in
    rw (error.1, error.2) bad

use Rattle.std.proofs.lemmas.Result.{err_from_is_err_and}
use Rattle.postscript_instance_file.specs.Refusals.{unmade, unplaced, unread}
use Rattle.postscript_instance_file.proofs.instance.instance_file.Goals as goal

pub returns-clause-written : goal.returns-clause-written
returns-clause-written c = record {
  face = c.in_ok-face.face;
  found = c.in_ok-face.ensures.found;
  light = c.in_ok-face.ensures.light;
  location = c.in_ok-location.location;
  at = c.in_ok-location.ensures.at;
  is = c.in_ok-made.ensures.written;
}

pub returns-in_err-face-clause-within : goal.returns-in_err-face-clause-within
returns-in_err-face-clause-within c =
    let error = err_from_is_err_and c.from_residual.result c.from_residual.ensures.1 in
    rw (error.1, error.2) (unread c.in_err-face.ensures.why)

pub returns-in_err-face-clause-why : goal.returns-in_err-face-clause-why
returns-in_err-face-clause-why c =
    let error = err_from_is_err_and c.from_residual.result c.from_residual.ensures.1 in
    rw (error.1, error.2) (c.args.limit, c.args.left.now, unread c.in_err-face.ensures.why)

pub returns-in_err-location-clause-within : goal.returns-in_err-location-clause-within
returns-in_err-location-clause-within c =
    let error = err_from_is_err_and c.from_residual-in_err-location.result c.from_residual-in_err-location.ensures.1 in
    rw (error.1, error.2) (unplaced c.in_ok-face.face c.in_ok-face.ensures.found c.in_err-location.ensures.why)

pub returns-in_err-location-clause-why : goal.returns-in_err-location-clause-why
returns-in_err-location-clause-why c =
    let error = err_from_is_err_and c.from_residual-in_err-location.result c.from_residual-in_err-location.ensures.1 in
    rw (error.1, error.2)
    (c.args.limit, c.args.left.now, unplaced c.in_ok-face.face c.in_ok-face.ensures.found c.in_err-location.ensures.why)

pub returns-in_err-made-clause-within : goal.returns-in_err-made-clause-within
returns-in_err-made-clause-within c =
    let error = err_from_is_err_and c.from_residual-in_err-made.result c.from_residual-in_err-made.ensures.1 in
    rw (error.1, error.2) (unmade c.in_ok-face.face c.in_ok-location.location c.in_ok-face.ensures.found c.in_ok-location.ensures.at
    c.in_err-made.ensures.why)

pub returns-in_err-made-clause-why : goal.returns-in_err-made-clause-why
returns-in_err-made-clause-why c =
    let error = err_from_is_err_and c.from_residual-in_err-made.result c.from_residual-in_err-made.ensures.1 in
    rw (error.1, error.2) (
      c.args.limit,
      c.args.left.now,
      unmade c.in_ok-face.face c.in_ok-location.location c.in_ok-face.ensures.found
          c.in_ok-location.ensures.at c.in_err-made.ensures.why,
    )

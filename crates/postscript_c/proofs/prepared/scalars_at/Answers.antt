use Rattle.std.proofs.Common.{inr}
use Rattle.std.proofs.lemmas.Result.{err_from_is_err_and}
use Rattle.postscript_c.proofs.prepared.scalars_at.Goals as goal

pub returns-in_err-place-clause-why : goal.returns-in_err-place-clause-why
returns-in_err-place-clause-why c =
    let error = err_from_is_err_and c.from_residual-in_err-place.result c.from_residual-in_err-place.ensures.1 in
    rw (error.1, error.2) (inr (c.in_ok-font.font, c.in_ok-font.ensures.found, c.in_err-place.ensures.why))

pub returns-in-Ok-clause-found : goal.returns-in-Ok-clause-found
returns-in-Ok-clause-found c = record {
  font = c.in_ok-font.font;
  place = c.in_ok-place.place;
  has = c.in_ok-font.ensures.found;
  at = c.in_ok-place.ensures.found;
  are = c.in-Ok.ensures;
}

pub returns-clause-why : goal.returns-clause-why
returns-clause-why c = inr (c.in_ok-font.font, c.in_ok-font.ensures.found, tt)

use Rattle.std.proofs.lemmas.Result.{err_from_is_err_and}
use Rattle.std.proofs.Common.{sym, ◌∙◌}
use Rattle.postscript_variable.proofs.Bytes.{front-at}
use Rattle.postscript_variable.proofs.routine.next_token.Goals as goal

pub returns-in_err-token : goal.returns-in_err-token
returns-in_err-token c =
    let error = err_from_is_err_and c.from_residual.result c.from_residual.ensures.1 in
    let there = c.in-Some.ensures.lookup in
    rw (error.1, error.2) (record {
      reads = (
        c.in-Some.first.now,
        _,
        sym c.reached-place.ensures.rest
            ∙ front-at c.reached-place.result.0.now c.reached-place.result.1 c.in-Some.first.now there.3.0 there.1,
        c.in_err-token.ensures.exact,
      );
      room = tt;
    })

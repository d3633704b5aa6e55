use Rattle.std.proofs.lemmas.Result.{err_from_is_err_and}
use Rattle.postscript_c.specs.Layouts.{chosen, no_chars}
use Rattle.postscript_c.proofs.layouts.laid_out_of.Goals as goal

pub returns-in_err-used : goal.returns-in_err-used
returns-in_err-used c =
    let e = err_from_is_err_and c.from_residual.result c.from_residual.ensures.1 in no_chars e.0 e.1 (rw e.2 c.in_err-used.ensures.why)

pub returns : goal.returns
returns c =
    chosen c.deref.result.now (rw c.deref.ensures.value c.in_ok-used.ensures.chars) c.deref-2.result.now
    (rw c.deref-2.ensures.value c.in_ok-given.ensures.names)
    c.choice_of-choice.result
    c.choice_of-choice.ensures
    c.laid_out.ensures

use Rattle.std.proofs.Common.{get_or, arith}
use Rattle.std.proofs.lemmas.Result.{err_from_is_err_and}
use Rattle.postscript_write.proofs.Making.{partless}
use Rattle.postscript_write.proofs.glyphs.numbers_of.Goals as goal

pub returns-in_err-number-clause-refused : goal.returns-in_err-number-clause-refused
returns-in_err-number-clause-refused c =
    let error = err_from_is_err_and c.from_residual-in_err-number.result c.from_residual-in_err-number.ensures.1 in
    rw (error.1, error.2) (partless c.args.font.now c.args.sources.now c.loop-i.i _ (omega arith)
    (λ k less. (get_or c.loop-i.numbers.items k 0, c.loop-i.invariant.1 k less)) c.in_err-number.ensures.refused)

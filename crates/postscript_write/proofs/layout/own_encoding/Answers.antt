use Rattle.std.proofs.Common.{arith}
use Rattle.std.proofs.lemmas.Result.{err_from_is_err_and}
use Rattle.postscript_write.proofs.Owned.{own_encoding_within}
use Rattle.postscript_write.proofs.layout.own_encoding.Goals as goal

pub returns-in_err-own-clause-refused : goal.returns-in_err-own-clause-refused
returns-in_err-own-clause-refused c =
    let error = err_from_is_err_and c.from_residual-in_err-own.result c.from_residual-in_err-own.ensures.1 in
    rw error.1 (λ encoding is.
    let within = own_encoding_within encoding c.args.bytes.now c.args.dictionary.now c.in_ok-place.place c.in_ok-place.ensures.offset
    (omega (arith, c.if-place-lt2.false)) is in
    c.in_err-own.ensures.refused within.next (c.encoding_end.ensures.only within.next within.within within.ends) within.order within.within)
